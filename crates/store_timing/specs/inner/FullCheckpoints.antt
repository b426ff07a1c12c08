-- Checkpoints with as many replies as a log has calls.
use Rattle.std.specs.Prelude.{◌≡◌, ℕ, ℤ, List, length}
use Rattle.sb_calls.specs.declared.call.TheConstants.{LOG_CALLS}
use Rattle.lane_audit.specs.Audit.{balances_total}
use Rattle.sb_checkpoint.specs.Checkpoint.{CheckpointOf, Second, SpellsInLayout}

-- the bytes spell a checkpoint with as many replies as a log has calls, of a bank whose total is
-- that of its opening
pub record SpellsFull (opening_total : ℤ) (bytes : List ℕ) : Type 0 where
  pub checkpoint : CheckpointOf
  pub spelled : SpellsInLayout Second opening_total checkpoint bytes
  pub opening : opening_total ≡ balances_total checkpoint.columns
  pub full : length checkpoint.replies ≡ LOG_CALLS
