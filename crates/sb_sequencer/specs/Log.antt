-- The log after asks, one by one.
use Rattle.std.specs.Prelude.{nat_le, ◌||◌, if◌then◌else◌, List, [], ◌∷◌, ◌++◌, length, fold}
use Rattle.sb_calls.specs.declared.ask.Key.{Key}
use Rattle.sb_calls.specs.declared.call.Call.{Call}
use Rattle.sb_sequencer.specs.Numbering.{has_key}
use Rattle.sb_calls.specs.declared.call.TheConstants.{LOG_CALLS}

-- the log after one more ask: a new key is appended while there is room; otherwise the log stays
unfoldable pub log_with : List (Key × Call) → Key × Call → List (Key × Call)
log_with log ask = if has_key log ask.0 || nat_le LOG_CALLS (length log) then log else log ++ ask ∷ []

-- the log after each of these asks in order
abbrev pub log_after : List (Key × Call) → List (Key × Call) → List (Key × Call)
log_after log asks = fold log_with log asks
