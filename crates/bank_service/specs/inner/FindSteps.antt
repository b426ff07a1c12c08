-- The faults of the steps by which a bank is found in a file.
use Rattle.std.specs.Prelude.{◌≡◌, ◌≢◌, ℕ, Err, List, []}
use Rattle.sb_log.specs.declared.log_fault.LogFault.TheVariants as log
use Rattle.sb_ask_log.specs.LogFile.{with_line_end}
use Rattle.sb_ask_log.specs.Recovery.{HasPartOfOpening}
use Rattle.bank_server.specs.declared.fault.RunFault.TheVariants as run
use Rattle.bank_service.specs.Opening.{whole_opening_of}
use Rattle.bank_service.specs.declared.serve_fault.ServeFault.{ServeFault}
use Rattle.bank_service.specs.declared.serve_fault.ServeFault.TheVariants.{AnotherOpening, Log, Run}

-- why no log with this text is made in an empty file, and what the file has then
abbrev pub IsCreateFault : List ℕ → ServeFault → List ℕ → Type 0
IsCreateFault text (Run (run.Input line fault)) new = (whole_opening_of text ≡ Err (line, fault)) × (new ≡ [])
IsCreateFault text (Log log.Device) new = HasPartOfOpening text new
IsCreateFault text (Log log.OutOfMemory) new = HasPartOfOpening text new
IsCreateFault text (Run run.OutOfMemory) new = HasPartOfOpening text new
IsCreateFault text other new = ⊥

-- why the opening of a log with this text isn't read: the input is another one, or memory was refused
abbrev pub IsMatchFault : List ℕ → List ℕ → ServeFault → Type 0
IsMatchFault text input (Run run.OutOfMemory) = Unit {0}
IsMatchFault text input (Run (run.Input line fault)) = whole_opening_of text ≡ Err (line, fault)
IsMatchFault text input AnotherOpening = (input ≢ []) × (with_line_end input ≢ text)
IsMatchFault text input other = ⊥
