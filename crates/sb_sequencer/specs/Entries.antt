-- The entries of the log, and those that are resent to a replica.
use Rattle.std.specs.Prelude.{ℕ, suc, Option, Some, None, List, [], ◌∷◌, take, drop, slice_get}
use Rattle.std.specs.Option.{option_map}
use Rattle.sb_calls.specs.declared.ask.Key.{Key}
use Rattle.sb_calls.specs.declared.call.Call.{Call}
use Rattle.sb_frames.specs.declared.frame.Frame.{Frame}
use Rattle.sb_frames.specs.declared.frame.Frame.TheVariants.{Entry}
use Rattle.sb_sequencer.specs.Numbering.{call_of_number}
use Rattle.sb_sequencer.specs.Sequencer.{SequencerOf}
use Rattle.sb_sequencer.specs.declared.sequencer.TheConstants.{RESEND}

-- the entry with a number
abbrev pub entry_of : List (Key × Call) → ℕ → Option Frame
entry_of log n = option_map (Entry n) (call_of_number log n)

-- an entry for each ask, numbered from this number on
abbrev pub entries_from : ℕ → List (Key × Call) → List Frame
entries_from n [] = []
entries_from n (ask ∷ asks) = Entry n ask.1 ∷ entries_from (suc n) asks

-- all entries of a log in order
abbrev pub entries : List (Key × Call) → List Frame
entries log = entries_from 1 log

-- the entries after this length, at most 16
unfoldable pub entries_after : List (Key × Call) → ℕ → List Frame
entries_after log size = take RESEND (drop size (entries log))

-- the entries after the recorded length of a replica, if there is such a replica
abbrev pub entries_for_replica : List (Key × Call) → Option ℕ → List Frame
entries_for_replica log (Some size) = entries_after log size
entries_for_replica log None = []

-- the entries that are resent to a replica
abbrev pub entries_to_resend : SequencerOf → ℕ → List Frame
entries_to_resend s replica = entries_for_replica s.log (slice_get s.recorded replica)
