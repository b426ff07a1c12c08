-- Cutting a log behind its last whole record.
use Rattle.std.specs.Prelude.{◌≡◌, ◌≢◌, ◌⊎◌, ℕ, Option, List, [], ◌++◌, length}
use Rattle.std.specs.Io.KnownBytes.{Appends}
use Rattle.sb_calls.specs.declared.ask.Key.{Key}
use Rattle.sb_calls.specs.declared.call.Call.{Call}
use Rattle.sb_ask_log.specs.Recovery.{IsDamagedAskLog, ReadsAskLog}
use Rattle.sb_log.specs.declared.log_fault.LogFault.TheVariants as log
use Rattle.bank_service.specs.LogListing.{IsListing}
use Rattle.bank_service.specs.declared.list_fault.ListFault.{ListFault}
use Rattle.bank_service.specs.declared.list_fault.ListFault.TheVariants.{Log, NoLog}
use Rattle.program_words.specs.declared.listing.Listing.TheVariants.{Check}

-- the bytes are the longest log that they begin with, and then this rest: a torn one, or damage
abbrev pub IsBehindLog : List ℕ → List ℕ → List ℕ → Type 0
IsBehindLog bytes records rest = (bytes ≡ records ++ rest)
    × (((text : List ℕ) × (log : List (Key × Call)) × ReadsAskLog bytes text log rest × (text ≢ []))
    ⊎ IsDamagedAskLog bytes (length records) (length rest))

-- what follows the log was cut off, and went to the end of another file, if it is known what that has
abbrev pub CutsOff : List ℕ → List ℕ → Option (List ℕ) → Option (List ℕ) → Type 0
CutsOff old new rest_old rest_new = (rest : List ℕ) × IsBehindLog old new rest × Appends rest_old rest_new rest

-- the line of the log of these bytes was printed
abbrev pub ListsCheck : List ℕ → Option (List ℕ) → Option (List ℕ) → Type 0
ListsCheck content old new = (text : List ℕ) × (log : List (Key × Call)) × (rest : List ℕ)
    × ReadsAskLog content text log rest × (listed : List ℕ) × IsListing Check text log listed × Appends old new listed

-- why a log of these bytes isn't cut: it has no whole first record, or is damaged from its first byte on; or what
-- follows it can't be written elsewhere; or a device failed, or memory was refused
abbrev pub IsCutFault : List ℕ → ListFault → Type 0
IsCutFault content NoLog = (log : List (Key × Call)) × (rest : List ℕ) × ReadsAskLog content [] log rest
IsCutFault content (Log (log.Damaged byte behind)) = (byte ≡ 0) × IsDamagedAskLog content byte behind
IsCutFault content (Log log.InUse) = ⊥
IsCutFault content other = Unit {0}
