-- What node 0's thread does with its replica, turn by turn.
use Rattle.std.specs.Prelude.{◌≡◌, suc, Some, List, [], ◌∷◌, slice_get}
use Rattle.cown_board.specs.Board.{length_of}
use Rattle.cown_workers.specs.Draining.{CrewStep, Exchange}
use Rattle.sb_calls.specs.declared.op.Op.{Op}
use Rattle.sb_replica.specs.Offers.{offer_answer, after_offer}
use Rattle.sb_replica.specs.Replica.{ReplicaOf, log_of, rest_of, with_log}

-- a turn: the entry that comes next is offered to the replica, or a job is exchanged with the crew
pub data NodeTurn : Type 0 where
  Offers : NodeTurn
  Exchanges : (step : CrewStep) → NodeTurn

-- the op that the log has for the next number is offered: the replica accepts it, or is busy
pub record OffersNext {S : Type 0} (log : List Op) (old new : ReplicaOf S) : Type 0 where
  pub op : Op
  pub next : slice_get log (length_of old.board) ≡ Some op
  pub after : new ≡ with_log old (after_offer (log_of old) op (offer_answer old.board (suc (length_of old.board))))

-- the board makes this exchange with the crew, and all else stays
pub record ExchangesJob {S : Type 0} (step : CrewStep) (old new : ReplicaOf S) : Type 0 where
  pub exchanged : Exchange old.board step new.board
  pub rest : rest_of new ≡ rest_of old
  pub held : new.held ≡ old.held

abbrev pub TakesNodeTurn : {S : Type 0} → List Op → ReplicaOf S → NodeTurn → ReplicaOf S → Type 0
TakesNodeTurn log old Offers new = OffersNext log old new
TakesNodeTurn log old (Exchanges step) new = ExchangesJob step old new

-- these turns, one after another
abbrev pub TakesNodeTurns : {S : Type 0} → List Op → ReplicaOf S → List NodeTurn → ReplicaOf S → Type 0
TakesNodeTurns log old [] new = new ≡ old
TakesNodeTurns {S} log old (turn ∷ turns) new =
    (mid : ReplicaOf S) × TakesNodeTurn log old turn mid × TakesNodeTurns log mid turns new

-- the replica went from old to new by turns of this log, and by nothing else
abbrev pub TurnsLead : {S : Type 0} → List Op → ReplicaOf S → ReplicaOf S → Type 0
TurnsLead log old new = (turns : List NodeTurn) × TakesNodeTurns log old turns new
