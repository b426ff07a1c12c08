-- A log of calls, run one by one over their cowns.
use Rattle.std.proofs.Common.{◌≡◌, ℕ, zero, suc, ℤ, Option, Some, None, List, [], ◌∷◌, map, refl, ap, ◌∙◌}
use Rattle.std.specs.Prelude.{slice_get, option_map}
use Rattle.sb_rows.specs.Balances.{Balances}
use Rattle.sb_rows.specs.Rows.{Rows, rows_of, SameCustomers}
use Rattle.sb_calls.proofs.EffectIsProcedure.{effect_performs}
use Rattle.sb_calls.specs.Behaviour.{declared_cowns, effect_of}
use Rattle.sb_calls.specs.CownLaws.{LogsByCowns}
use Rattle.sb_calls.specs.Cowns.{contents_of}
use Rattle.sb_calls.specs.Log.{rows_after_calls, reply_to}
use Rattle.sb_calls.specs.SerialRun.{reply_of, contents_after_first, reply_by_log}
use Rattle.sb_calls.specs.Op.{op_of}
use Rattle.sb_calls.specs.Procedures.{procedure}
use Rattle.sb_calls.specs.declared.call.Call.{Call}

-- the cowns hold, after the first calls of a log, the balances whose rows are those after these
-- calls
abbrev RowsAfter : List (List ℕ) → Balances → List Call → ℕ → Type 0
RowsAfter directory b calls k = (after : Balances) × SameCustomers directory after
    × (contents_of after ≡ contents_after_first declared_cowns effect_of (contents_of b) (map (op_of directory) calls) k)
    × (rows_of directory after ≡ rows_after_calls (rows_of directory b) calls k)

rows_after_first : (directory : List (List ℕ)) (b : Balances) (calls : List Call) (k : ℕ) → SameCustomers directory b → RowsAfter directory b calls k
rows_after_first directory b calls zero same = (b, same, refl, refl)
rows_after_first directory b [] (suc k) same = (b, same, refl, refl)
rows_after_first directory b (call ∷ calls) (suc k) same =
    let first = effect_performs directory b call (op_of directory call) same refl in
    let rest = rows_after_first directory first.new calls k first.performs.customers in (
      rest.0,
      rest.1,
      rest.2 ∙ ap (λ (contents : List ℤ). contents_after_first declared_cowns effect_of contents (map (op_of directory) calls) k) first.written,
      rest.3 ∙ ap (λ (rows : Rows). rows_after_calls rows calls k) first.performs.rows,
    )

-- the element at a place of a mapped list
slice_get-map : {X Y : Type 0} (f : X → Y) (xs : List X) (k : ℕ) → slice_get (map f xs) k ≡ option_map f (slice_get xs k)
slice_get-map f [] k = refl
slice_get-map f (x ∷ xs) zero = refl
slice_get-map f (x ∷ xs) (suc k) = slice_get-map f xs k

-- the reply to a call, if there is one
same_reply : (directory : List (List ℕ)) (b : Balances) (call : Option Call) → SameCustomers directory b
    → option_map (reply_of declared_cowns effect_of (contents_of b)) (option_map (op_of directory) call)
    ≡ option_map (λ c. (procedure c (rows_of directory b)).reply) call
same_reply directory b None same = refl
same_reply directory b (Some call) same = let one = effect_performs directory b call (op_of directory call) same refl in ap Some one.performs.reply

replies_by_cowns : (directory : List (List ℕ)) (b : Balances) (calls : List Call) (n : ℕ) → SameCustomers directory b
    → reply_by_log declared_cowns effect_of (contents_of b) (map (op_of directory) calls) n ≡ reply_to (rows_of directory b) calls n
replies_by_cowns directory b calls zero same = refl
replies_by_cowns directory b calls (suc k) same =
    let after = rows_after_first directory b calls k same in
    rw (slice_get-map (op_of directory) calls k, ← after.2, ← after.3) (same_reply directory after.0 (slice_get calls k) after.1)

pub log_by_cowns : LogsByCowns
log_by_cowns directory b calls same = record { replies = λ n. replies_by_cowns directory b calls n same; rows = λ k. rows_after_first directory b calls k same }
