-- A sequencer's room, and the lengths that it records.
use Rattle.std.specs.Prelude.{◌≡◌, ℕ, ◌≤◌, Option, List, length}
use Rattle.std.specs.List.{All}
use Rattle.sb_calls.specs.declared.ask.Key.{Key}
use Rattle.sb_calls.specs.declared.call.Call.{Call}
use Rattle.sb_calls.specs.declared.reply.Reply.{Reply}
use Rattle.sb_sequencer.specs.Numbering.{IsLog}

-- no replica is beyond the log, and each has a checkpoint length that isn't either; answers are
-- stored only for its calls, and there is room for an answer to each
pub record HasRooms (entries : List (Key × Call)) (sizes states : List ℕ)
    (stored : List (Option Reply)) (capacity : ℕ) : Type 0 where
  pub log : IsLog entries
  pub recorded : All (λ size. size ≤ length entries) sizes
  pub same_length : length states ≡ length sizes
  pub checkpoints : All (λ size. size ≤ length entries) states
  pub answers : length stored ≤ length entries
  pub room : length entries ≤ capacity
