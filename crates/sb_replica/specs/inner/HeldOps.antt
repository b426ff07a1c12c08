-- What always holds of a replica's log.
use Rattle.std.specs.Prelude.{◌≡◌, ℕ, suc, ◌+◌, ◌≤◌, Some, length, slice_get}
use Rattle.sb_calls.specs.Op.{IsOpWithin}
use Rattle.sb_calls.specs.declared.call.TheConstants.{LOG_CALLS}
use Rattle.sb_calls.specs.declared.op.Op.{Op}
use Rattle.cown_board.specs.Board.{length_of}
use Rattle.sb_replica.specs.Log.{LogOf}
use Rattle.sb_replica.specs.declared.replica_log.TheConstants.{HELD_ENTRIES}

-- each op that is held has a number that a log takes, and names the board's customers
pub record IsReplicaLog (log : LogOf) : Type 0 where
  pub slots : length log.held ≡ HELD_ENTRIES
  pub numbers : (place : ℕ) (op : Op) → slice_get log.held place ≡ Some (Some op)
      → length_of log.board + suc place ≤ LOG_CALLS
  pub within : (place : ℕ) (op : Op) → slice_get log.held place ≡ Some (Some op)
      → IsOpWithin (length log.board.opening.savings) op
