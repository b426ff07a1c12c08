-- A replica log as its callers see it.
use Rattle.std.specs.Prelude.{Option, None, option_and_then, List, replicate, slice_get}
use Rattle.sb_calls.specs.declared.op.Op.{Op}
use Rattle.cown_board.specs.Board.{BoardOf}
use Rattle.sb_replica.specs.declared.replica_log.TheConstants.{HELD_ENTRIES}

-- its board, and the ops that it holds: one slot for each of the next numbers, beginning after the
-- board's length
pub record LogOf : Type 0 where
  pub board : BoardOf Op
  pub held : List (Option Op)

-- no op is held
unfoldable pub none_held : List (Option Op)
none_held = replicate HELD_ENTRIES None

-- the op that is held for the next number
abbrev pub next_held : LogOf → Option Op
next_held log = option_and_then (λ held. held) (slice_get log.held 0)
