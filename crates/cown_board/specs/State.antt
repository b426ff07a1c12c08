-- The state of a behaviour that was submitted.
use Rattle.std.specs.Prelude.{ℕ, Bool, true, false, Option, Some, None, List, slice_get}
use Rattle.cown_board.specs.declared.state.State.{State}
use Rattle.cown_board.specs.declared.state.State.TheVariants.{Waiting, Out, Finished}
use Rattle.sb_calls.specs.declared.reply.Reply.{Reply}

abbrev pub is_waiting : State → Bool
is_waiting Waiting = true
is_waiting Out = false
is_waiting (Finished reply) = false

-- the state isn't finished
abbrev pub is_unfinished : State → Bool
is_unfinished Waiting = true
is_unfinished Out = true
is_unfinished (Finished reply) = false

abbrev pub finished_reply : State → Option Reply
finished_reply Waiting = None
finished_reply Out = None
finished_reply (Finished reply) = Some reply

-- the test holds of the state at a position; it fails if there is none
abbrev pub state_is : (State → Bool) → Option State → Bool
state_is test None = false
state_is test (Some state) = test state

-- the behaviour at a position of a log is unfinished
abbrev pub unfinished_at : List State → ℕ → Bool
unfinished_at states k = state_is is_unfinished (slice_get states k)
