-- The stage of an accepted entry.
use Rattle.std.specs.Prelude.{Bool, true, false}

-- it waits for its turn, a worker has it, or it is done
pub data Stage : Type 0 where
  Waits : Stage
  IsOut : Stage
  IsDone : Stage

abbrev pub waits : Stage → Bool
waits Waits = true
waits IsOut = false
waits IsDone = false

abbrev pub is_undone : Stage → Bool
is_undone Waits = true
is_undone IsOut = true
is_undone IsDone = false
