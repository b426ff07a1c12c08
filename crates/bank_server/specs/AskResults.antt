-- The result of asking for each line.
use Rattle.std.specs.Prelude.{◌≡◌, ℕ, Option, Some, None, Result, Ok, Err, List, ◌∷◌, ◌++◌, map}
use Rattle.sb_calls.specs.declared.ask.AskLine.{AskLine}
use Rattle.sb_calls.specs.declared.ask.Key.{Key}
use Rattle.sb_calls.specs.declared.call.Call.{Call}
use Rattle.sb_calls.specs.declared.text.fault.CallFault.{CallFault}
use Rattle.sb_sequencer.specs.Answer.{AnswersAsk}
use Rattle.sb_sequencer.specs.Numbering.{first_asks}
use Rattle.sb_sequencer.specs.declared.answer.AskFault.{AskFault}
use Rattle.sb_sequencer.specs.declared.answer.AskFault.TheVariants as faults
use Rattle.sb_sequencer.specs.declared.answer.Numbered.{Numbered}
use Rattle.sb_sequencer.specs.declared.answer.Numbered.TheVariants.{New, Repeat}
use Rattle.bank_server.specs.Asks.{asks_with_keys}
use Rattle.bank_server.specs.Standing.{standing_of}
use Rattle.bank_server.specs.Output.{log_of_asks}
use Rattle.bank_server.specs.declared.input.asking.Standing.{Standing}
use Rattle.bank_server.specs.declared.input.asking.Standing.TheVariants.{Number, Mismatch, LogFull}

-- the log is that of these asks, and each ask has its standing in it
pub record AsksGiveStandings (asks : List AskLine) (log : List (Key × Call)) (standings : List Standing) : Type 0 where
  pub log_is : log ≡ log_of_asks asks
  pub standings_are : standings ≡ map (standing_of log) (asks_with_keys asks)

-- these lines were asked for, and none of them is at fault
abbrev pub LinesGiveStandings : Result (List AskLine) (ℕ × CallFault) → List (Key × Call) → List Standing → Type 0
LinesGiveStandings (Ok asks) log standings = AsksGiveStandings asks log standings
LinesGiveStandings (Err fault) log standings = ⊥

-- the standing in the log of an ask with this answer, or `None` if memory was refused
abbrev pub standing_of_answer : Result Numbered AskFault → Option Standing
standing_of_answer (Ok (New n)) = Some (Number n)
standing_of_answer (Ok (Repeat n)) = Some (Number n)
standing_of_answer (Err (faults.Mismatch n)) = Some (Mismatch n)
standing_of_answer (Err faults.LogFull) = Some LogFull
standing_of_answer (Err faults.OutOfMemory) = None

-- the sequencer's answer to an ask is its standing in the log for good, whatever is asked after it
abbrev pub AnswersAreFinal : Type 0
AnswersAreFinal =
    (before after : List (Key × Call)) (ask : Key × Call) (answer : Result Numbered AskFault) (standing : Standing)
    → AnswersAsk (first_asks before) ask answer → standing_of_answer answer ≡ Some standing
    → standing_of (first_asks (before ++ ask ∷ after)) ask ≡ standing
