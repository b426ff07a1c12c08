-- The ask at the front of some bytes.
use Rattle.std.specs.Prelude.{◌≡◌, ◌≢◌, ◌≤◌, ℕ, Option, Some, None, List, [], length, take}
use Rattle.std.specs.List.{All}
use Rattle.sb_calls.specs.declared.ask.Key.{Key}
use Rattle.sb_calls.specs.declared.call.Call.{Call}
use Rattle.sb_frames.specs.Grammar.{spelling}
use Rattle.sb_ask_log.specs.Asks.{IsAsk, asks_field, ask_frame}

-- the first of these bytes' asks, with its size; without one no list of asks has these bytes
abbrev pub StartsWithAsk : List ℕ → Option (Key × Call × ℕ) → Type 0
StartsWithAsk bytes (Some found) = (found.2 ≤ length bytes) × IsAsk (found.0, found.1)
    × (take found.2 bytes ≡ spelling (ask_frame (found.0, found.1)))
StartsWithAsk bytes None = (asks : List (Key × Call)) → asks ≢ [] → All IsAsk asks → bytes ≢ asks_field asks
