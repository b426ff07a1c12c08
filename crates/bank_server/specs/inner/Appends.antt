-- Ops that are appended to a board's log.
use Rattle.std.specs.Prelude.{◌≡◌, ℕ, List, ◌++◌, drop}
use Rattle.std.specs.List.{All}
use Rattle.sb_calls.specs.Op.{IsOpWithin}
use Rattle.sb_calls.specs.declared.op.Op.{Op}
use Rattle.cown_board.specs.Board.{BoardOf}
use Rattle.cown_workers.specs.Draining.{HasNoneOut}

-- the places of each op are among this many customers
abbrev pub AreOpsWithin : ℕ → List Op → Type 0
AreOpsWithin customers ops = All (IsOpWithin customers) ops

-- these ops are appended to the log, the cut stays, and if no op was out none is
pub record AppendsOps (ops : List Op) (old new : BoardOf Op) : Type 0 where
  pub opening : new.opening ≡ old.opening
  pub base_replies : new.base_replies ≡ old.base_replies
  pub log : new.log ≡ old.log ++ ops
  pub cut : new.cut ≡ old.cut
  pub none_out : HasNoneOut old → HasNoneOut new

-- after this many ops, the log has these
abbrev pub HasOpsAt : List Op → ℕ → List Op → Type 0
HasOpsAt log size ops = (behind : List Op) × (drop size log ≡ ops ++ behind)
