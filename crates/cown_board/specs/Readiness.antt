-- Which behaviours of a log are ready.
use Rattle.std.specs.Prelude.{ℕ, Bool, ◌&&◌, Option, Some, None, List, [], slice_get, length}
use Rattle.sb_calls.specs.SerialRun.{share_cown}
use Rattle.cown_board.specs.Positions.{positions, none_below}
use Rattle.cown_board.specs.State.{is_waiting, is_unfinished, state_is}
use Rattle.cown_board.specs.declared.state.State.{State}

module _ {B : Type 0} (touches : B → List ℕ) where
  -- the cowns that the behaviour at a position declares
  abbrev pub touched_by : Option B → List ℕ
  touched_by None = []
  touched_by (Some behaviour) = touches behaviour

  -- the behaviours at two positions of a log share a cown
  abbrev pub conflict_at : List B → ℕ → ℕ → Bool
  conflict_at log j k = share_cown (touched_by (slice_get log j)) (touched_by (slice_get log k))

  -- no unfinished behaviour before a position shares a cown with the one there
  abbrev pub is_clear_at : List B → List State → ℕ → Bool
  is_clear_at log states k = none_below (λ j. state_is is_unfinished (slice_get states j) && conflict_at log j k) k

  -- a behaviour is ready if it waits, and no unfinished one before it shares a cown with it
  abbrev pub is_ready_at : List B → List State → ℕ → Bool
  is_ready_at log states k = state_is is_waiting (slice_get states k) && is_clear_at log states k

  -- the positions of the ready behaviours, in rising order
  unfoldable pub ready_positions : List B → List State → List ℕ
  ready_positions log states = positions (is_ready_at log states) (length log)
