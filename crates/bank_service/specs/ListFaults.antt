-- What a fault of listing a log means.
use Rattle.std.specs.Prelude.{ℕ, Option, List, []}
use Rattle.std.specs.Io.KnownBytes.{Keeps}
use Rattle.sb_calls.specs.declared.ask.Key.{Key}
use Rattle.sb_calls.specs.declared.call.Call.{Call}
use Rattle.sb_log.specs.declared.log_fault.LogFault.{LogFault}
use Rattle.sb_log.specs.declared.log_fault.LogFault.TheVariants as log
use Rattle.sb_ask_log.specs.Recovery.{IsReadFault, ReadsAskLog}
use Rattle.bank_service.specs.declared.list_fault.ListFault.{ListFault}
use Rattle.bank_service.specs.declared.list_fault.ListFault.TheVariants.{Log, NoLog, Rest, Device, OutOfMemory}

-- the file is damaged or can't be read, or has no whole first record; or a write failed, or memory was refused
abbrev pub IsListFault : List ℕ → ListFault → Type 0
IsListFault content (Log fault) = IsReadFault content fault
IsListFault content NoLog = (log : List (Key × Call)) × (rest : List ℕ) × ReadsAskLog content [] log rest
IsListFault content Rest = ⊥
IsListFault content Device = Unit {0}
IsListFault content OutOfMemory = Unit {0}

-- only cutting a log writes its rest
abbrev pub IsListingFault : ListFault → Type 0
IsListingFault Rest = ⊥
IsListingFault other = Unit {0}

-- unless a write failed, nothing was written
abbrev pub LeavesListing : ListFault → Option (List ℕ) → Option (List ℕ) → Type 0
LeavesListing Device old new = Unit {0}
LeavesListing other old new = Keeps old new

-- 1 for a file that is damaged or no log, 3 for every other fault
abbrev pub log_status : LogFault → ℕ
log_status (log.Damaged byte behind) = 1
log_status log.Device = 3
log_status log.OutOfMemory = 3
log_status log.InUse = 3

abbrev pub list_status : ListFault → ℕ
list_status (Log fault) = log_status fault
list_status NoLog = 1
list_status Rest = 3
list_status Device = 3
list_status OutOfMemory = 3
