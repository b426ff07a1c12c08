-- Tests of a behaviour's state that only private contracts and proofs use.
use Rattle.std.specs.Prelude.{ℕ, Bool, List, slice_get}
use Rattle.cown_board.specs.declared.state.State.{State}
use Rattle.cown_board.specs.State.{state_is, is_waiting}

-- the behaviour at a position of a log waits
abbrev pub waiting_at : List State → ℕ → Bool
waiting_at states k = state_is is_waiting (slice_get states k)
