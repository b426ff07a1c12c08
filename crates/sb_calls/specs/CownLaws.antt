-- The effect of an op as the procedure on the rows.
use Rattle.std.specs.Prelude.{◌≡◌, ◌↔◌, ℕ, ℤ, Option, Some, List, map, option_map}
use Rattle.std.specs.List.{Contains}
use Rattle.sb_rows.specs.Balances.{Balances}
use Rattle.sb_rows.specs.Directory.{place_of}
use Rattle.sb_rows.specs.Rows.{rows_of, SameCustomers}
use Rattle.sb_calls.specs.Cowns.{savings_cown, checking_cown, IsContents, contents_of, read_cowns, write_cowns}
use Rattle.sb_calls.specs.Behaviour.{declared_cowns, effect_of}
use Rattle.sb_calls.specs.Log.{rows_after_calls, reply_to}
use Rattle.sb_calls.specs.SerialRun.{contents_after_first, reply_by_log}
use Rattle.sb_calls.specs.Op.{op_of}
use Rattle.sb_calls.specs.FollowsProcedure.{FollowsProcedure}
use Rattle.sb_calls.specs.Touches.{BalanceCell, Savings, Checking, touched_cells}
use Rattle.sb_calls.specs.declared.call.Call.{Call}
use Rattle.sb_calls.specs.Replies.{IsReply}
use Rattle.sb_calls.specs.declared.op.Op.{Op}
use Rattle.sb_calls.specs.declared.reply.Reply.{Reply}

-- the cown of a balance, given the names by place
abbrev pub cown_of : List (List ℕ) → BalanceCell → Option ℕ
cown_of directory (Savings name) = option_map savings_cown (place_of directory name)
cown_of directory (Checking name) = option_map checking_cown (place_of directory name)

-- the cowns are exactly those of the balances that the call touches
abbrev pub DeclaresTouched : List (List ℕ) → Balances → Call → List ℕ → Type 0
DeclaresTouched directory b call cowns =
    (cown : ℕ) → Contains cowns cown
    ↔ ((cell : BalanceCell) × Contains (touched_cells (rows_of directory b) call) cell
    × (cown_of directory cell ≡ Some cown))

-- the op of a call declares the cowns of the balances that the call touches
abbrev pub OpsDeclareTouched : Type 0
OpsDeclareTouched = (directory : List (List ℕ)) (b : Balances) (call : Call) → SameCustomers directory b
    → DeclaresTouched directory b call (declared_cowns (op_of directory call))

-- once these outputs are written to the declared cowns, the rows are those after the procedure, and
-- the reply is the procedure's
pub record PerformsByCowns (directory : List (List ℕ)) (call : Call) (old : Balances) (cowns : List ℕ)
    (answer : Reply) (outputs : List ℤ) : Type 0 where
  pub new : Balances
  pub written : contents_of new ≡ write_cowns (contents_of old) cowns outputs
  pub performs : FollowsProcedure directory call old new answer

-- the effect of a call's op on the values of its cowns is the call's procedure
abbrev pub EffectsByProcedure : Type 0
EffectsByProcedure = (directory : List (List ℕ)) (b : Balances) (call : Call) → SameCustomers directory b
    → let cowns = declared_cowns (op_of directory call) in
    let effect = effect_of (op_of directory call) (read_cowns (contents_of b) cowns) in
    PerformsByCowns directory call b cowns effect.0 effect.1

-- a log of calls, looked up and run one by one over the cowns: its replies are those of the calls,
-- and after its first k calls the cowns contain balances of these customers, whose rows are
-- those after the first k calls
pub record RunsAsCalls (directory : List (List ℕ)) (b : Balances) (calls : List Call) : Type 0 where
  pub replies : (n : ℕ)
      → reply_by_log declared_cowns effect_of (contents_of b) (map (op_of directory) calls) n
      ≡ reply_to (rows_of directory b) calls n
  pub rows : (k : ℕ) → (after : Balances) × SameCustomers directory after
      × (contents_of after
      ≡ contents_after_first declared_cowns effect_of (contents_of b) (map (op_of directory) calls) k)
      × (rows_of directory after ≡ rows_after_calls (rows_of directory b) calls k)

-- whole logs that run over cowns agree with the procedures on the rows
abbrev pub LogsByCowns : Type 0
LogsByCowns = (directory : List (List ℕ)) (b : Balances) (calls : List Call) → SameCustomers directory b
    → RunsAsCalls directory b calls

-- each reply of a log has a spelling, if the cowns contain allowed values at the start
abbrev pub RepliesHaveSpellings : Type 0
RepliesHaveSpellings = (opening : List ℤ) (log : List Op) (n : ℕ) (reply : Reply) → IsContents opening
    → reply_by_log declared_cowns effect_of opening log n ≡ Some reply → IsReply reply
