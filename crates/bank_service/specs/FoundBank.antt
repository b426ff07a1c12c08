-- The bank that is found in a log's file.
use Rattle.std.specs.Prelude.{◌≡◌, ◌≢◌, ◌⊎◌, ℕ, Err, List, [], ◌++◌, length}
use Rattle.sb_calls.specs.declared.ask.Key.{Key}
use Rattle.sb_calls.specs.declared.call.Call.{Call}
use Rattle.sb_log.specs.declared.log_fault.LogFault.TheVariants as log
use Rattle.sb_ask_log.specs.LogFile.{with_line_end}
use Rattle.sb_ask_log.specs.Recovery.{HasPartOfOpening, IsDamagedAskLog, IsSameOrCut, ReadsAskLog}
use Rattle.bank_server.specs.declared.fault.RunFault.TheVariants as run
use Rattle.bank_service.specs.Opening.{whole_opening_of}
use Rattle.bank_service.specs.declared.serve_fault.ServeFault.{ServeFault}
use Rattle.bank_service.specs.declared.serve_fault.ServeFault.TheVariants.{AnotherOpening, Log, Run}

-- these bytes have no log: nothing, or a torn first record
abbrev pub HasNoLog : List ℕ → Type 0
HasNoLog content = (rest : List ℕ) × ReadsAskLog content [] [] rest

-- what is found in a file of these bytes: its log, if there is one, and then the input is empty or the
-- same opening; or a new log with the input's opening. So many bytes of a torn rest are cut off
abbrev pub FindsBank : List ℕ → List ℕ → List ℕ → List (Key × Call) → ℕ → Type 0
FindsBank content input text log cut = (old_text : List ℕ) × (old : List (Key × Call)) × (rest : List ℕ)
    × ReadsAskLog content old_text old rest × (cut ≡ length rest)
    × (((old_text ≡ []) × (text ≡ with_line_end input) × (log ≡ []))
    ⊎ ((old_text ≢ []) × ((input ≡ []) ⊎ (with_line_end input ≡ old_text)) × (text ≡ old_text) × (log ≡ old)))

-- the file has its log still, and its torn rest or not; or it has no log, and then a part of the new one
-- may be there
abbrev pub KeepsOldLog : List ℕ → List ℕ → List ℕ → Type 0
KeepsOldLog content input new =
    IsSameOrCut content new ⊎ (HasNoLog content × HasPartOfOpening (with_line_end input) new)

-- why no bank is found in a file of these bytes, with this input, and what the file has then
abbrev pub IsFindFault : List ℕ → List ℕ → ServeFault → List ℕ → Type 0
-- the file is damaged, and stays
IsFindFault content input (Log (log.Damaged byte behind)) new =
    IsDamagedAskLog content byte behind × (new ≡ content)
-- it has a log, and the input is another opening; the log stays
IsFindFault content input AnotherOpening new = (text : List ℕ) × (asks : List (Key × Call)) × (rest : List ℕ)
    × ReadsAskLog content text asks rest × (text ≢ []) × (input ≢ []) × (with_line_end input ≢ text)
    × (content ≡ new ++ rest)
-- it has no log, and the input isn't an opening
IsFindFault content input (Run (run.Input line fault)) new =
    HasNoLog content × (whole_opening_of (with_line_end input) ≡ Err (line, fault)) × (new ≡ [])
-- the device failed, or memory was refused
IsFindFault content input (Log log.Device) new = KeepsOldLog content input new
IsFindFault content input (Log log.OutOfMemory) new = KeepsOldLog content input new
IsFindFault content input (Run run.OutOfMemory) new = KeepsOldLog content input new
IsFindFault content input other new = ⊥
