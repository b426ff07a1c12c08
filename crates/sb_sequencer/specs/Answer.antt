-- The answer to an ask, and its effect on the log.
use Rattle.std.specs.Prelude.{◌≡◌, ◌≢◌, ℕ, ◌+◌, ◌<◌, ◌≤◌, Some, None, Result, Ok, Err, List, [], ◌∷◌, ◌++◌, length, slice_get}
use Rattle.sb_calls.specs.declared.ask.Key.{Key}
use Rattle.sb_calls.specs.declared.call.Call.{Call}
use Rattle.sb_sequencer.specs.Log.{log_with}
use Rattle.sb_sequencer.specs.Numbering.{first_asks, index_of_key}
use Rattle.sb_sequencer.specs.declared.answer.AskFault.{AskFault}
use Rattle.sb_sequencer.specs.declared.answer.AskFault.TheVariants.{Mismatch, LogFull, OutOfMemory}
use Rattle.sb_sequencer.specs.declared.answer.Numbered.{Numbered}
use Rattle.sb_sequencer.specs.declared.answer.Numbered.TheVariants.{New, Repeat}
use Rattle.sb_calls.specs.declared.call.TheConstants.{LOG_CALLS}

-- the answer to an ask, by the log
abbrev pub AnswersAsk : List (Key × Call) → Key × Call → Result Numbered AskFault → Type 0
-- a new key gets the next number
AnswersAsk log ask (Ok (New n)) = (index_of_key log ask.0 ≡ None) × (length log < LOG_CALLS) × (n ≡ length log + 1)
-- a key that has a number keeps it, if the call is the same
AnswersAsk log ask (Ok (Repeat n)) =
    (k : ℕ) × (index_of_key log ask.0 ≡ Some k) × (n ≡ k + 1) × (slice_get log k ≡ Some ask)
AnswersAsk log ask (Err (Mismatch n)) =
    (k : ℕ) × (index_of_key log ask.0 ≡ Some k) × (n ≡ k + 1) × (slice_get log k ≢ Some ask)
-- a new key at a full log
AnswersAsk log ask (Err LogFull) = (index_of_key log ask.0 ≡ None) × (LOG_CALLS ≤ length log)
-- memory may be refused for a new key only
AnswersAsk log ask (Err OutOfMemory) = (index_of_key log ask.0 ≡ None) × (length log < LOG_CALLS)

-- only a new number changes the log: the ask is appended
abbrev pub LogAfter : List (Key × Call) → Key × Call → Result Numbered AskFault → List (Key × Call) → Type 0
LogAfter old ask (Ok (New n)) new = new ≡ old ++ ask ∷ []
LogAfter old ask (Ok (Repeat n)) new = new ≡ old
LogAfter old ask (Err fault) new = new ≡ old

-- an ask that isn't refused memory takes the log one step
abbrev pub AsksStepLog : Type 0
AsksStepLog = (old new : List (Key × Call)) (ask : Key × Call) (answer : Result Numbered AskFault)
    → AnswersAsk old ask answer → LogAfter old ask answer new → answer ≢ Err OutOfMemory → new ≡ log_with old ask

-- if the log is the first asks of these, then after an ask that isn't refused memory it is the first
-- asks of these and this one
abbrev pub AsksExtendFirstAsks : Type 0
AsksExtendFirstAsks = (asks old new : List (Key × Call)) (ask : Key × Call) (answer : Result Numbered AskFault)
    → AnswersAsk old ask answer → LogAfter old ask answer new → answer ≢ Err OutOfMemory
    → old ≡ first_asks asks → new ≡ first_asks (asks ++ ask ∷ [])
