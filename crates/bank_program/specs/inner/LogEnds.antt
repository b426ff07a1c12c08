-- Where a log ends.
use Rattle.std.specs.Prelude.{◌≡◌, ◌≢◌, ◌⊎◌, ℕ, ◌+◌, List, [], length}
use Rattle.sb_calls.specs.declared.ask.Key.{Key}
use Rattle.sb_calls.specs.declared.call.Call.{Call}
use Rattle.sb_ask_log.specs.Recovery.{IsDamagedAskLog, ReadsAskLog}

-- the log that these bytes begin with ends at this byte, and so many follow
abbrev pub EndsRecordsAt : List ℕ → ℕ → ℕ → Type 0
EndsRecordsAt bytes byte behind =
    ((text : List ℕ) × (log : List (Key × Call)) × (rest : List ℕ) × ReadsAskLog bytes text log rest × (text ≢ [])
    × (behind ≡ length rest) × (byte + behind ≡ length bytes))
    ⊎ IsDamagedAskLog bytes byte behind
