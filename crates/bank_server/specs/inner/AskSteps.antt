-- One ask after another: the log, the keys and the standings so far.
use Rattle.std.specs.Prelude.{◌≡◌, ℕ, Result, Ok, Err, List, ◌∷◌, [], ◌++◌, map}
use Rattle.std.specs.List.{AllByRecursion}
use Rattle.sb_calls.specs.Ask.{IsKey}
use Rattle.sb_calls.specs.declared.ask.AskLine.{AskLine}
use Rattle.sb_calls.specs.declared.ask.Key.{Key}
use Rattle.sb_calls.specs.declared.call.Call.{Call}
use Rattle.sb_sequencer.specs.Numbering.{first_asks}
use Rattle.sb_sequencer.specs.declared.answer.AskFault.{AskFault}
use Rattle.sb_sequencer.specs.declared.answer.AskFault.TheVariants as faults
use Rattle.sb_sequencer.specs.declared.answer.Numbered.{Numbered}
use Rattle.sb_sequencer.specs.declared.answer.Numbered.TheVariants.{New, Repeat}
use Rattle.bank_server.specs.Asks.{asks_with_keys, key_of_line, running_after}
use Rattle.bank_server.specs.LogNumber.{IsLogNumber}
use Rattle.bank_server.specs.Standing.{standing_of}
use Rattle.bank_server.specs.Output.{log_of_asks}
use Rattle.bank_server.specs.declared.input.asking.Standing.{Standing}
use Rattle.bank_server.specs.declared.fault.RunFault.{RunFault}
use Rattle.bank_server.specs.declared.fault.RunFault.TheVariants.{OutOfMemory}

-- the running number after all of these asks
abbrev pub running_from : ℕ → List AskLine → ℕ
running_from running [] = running
running_from running (asked ∷ asks) = running_from (running_after running asked.key) asks

-- after these asks the log is theirs, and the next line without a key has this running number
pub record IsAfterAsks (asks : List AskLine) (running : ℕ) (log : List (Key × Call)) : Type 0 where
  pub keys : AllByRecursion (λ asked. IsKey asked.key) asks
  pub running_is : running ≡ running_from 1 asks
  pub log_is : log ≡ log_of_asks asks

-- after these asks they also have their standings
pub record HasStandings (asks : List AskLine) (running : ℕ) (log : List (Key × Call))
    (standings : List Standing) : Type 0 where
  pub after : IsAfterAsks asks running log
  pub standings_are : standings ≡ map (standing_of log) (asks_with_keys asks)

-- the number in the answer, if there is one, is one of a log
abbrev pub HasLogNumber : Result Numbered AskFault → Type 0
HasLogNumber (Ok (New n)) = IsLogNumber n
HasLogNumber (Ok (Repeat n)) = IsLogNumber n
HasLogNumber (Err (faults.Mismatch n)) = IsLogNumber n
HasLogNumber (Err faults.LogFull) = Unit {0}
HasLogNumber (Err faults.OutOfMemory) = Unit {0}

-- one more ask was made, and this is its standing in the log
abbrev pub AddsAsk : List (Key × Call) → Key × Call → List (Key × Call) → Standing → Type 0
AddsAsk asks ask new standing = (new ≡ first_asks (asks ++ ask ∷ [])) × (standing ≡ standing_of new ask)

-- one more line was asked for, and this is its standing in the log; or memory was refused
abbrev pub AddsLineAsk : List AskLine → ℕ → AskLine → List (Key × Call) → Result Standing RunFault → Type 0
AddsLineAsk asks running asked new (Ok standing) =
    AddsAsk (asks_with_keys asks) (key_of_line running asked.key, asked.call) new standing
AddsLineAsk asks running asked new (Err fault) = fault ≡ OutOfMemory
