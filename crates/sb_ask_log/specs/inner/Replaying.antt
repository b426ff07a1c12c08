-- How the bodies of a log's file are taken again.
use Rattle.std.specs.Prelude.{◌≡◌, ◌≢◌, ◌⊎◌, ℕ, List, [], ◌++◌}
use Rattle.std.specs.List.{All}
use Rattle.sb_calls.specs.declared.ask.Key.{Key}
use Rattle.sb_calls.specs.declared.call.Call.{Call}
use Rattle.sb_sequencer.specs.Numbering.{IsLog}
use Rattle.sb_ask_log.specs.Asks.{IsAsk, asks_field}
use Rattle.sb_ask_log.specs.LogFile.{IsOpeningText, log_magic}

-- the opening text, which is empty before it is read, and the asks by their numbers
pub record AskReplayOf : Type 0 where
  pub text : List ℕ
  pub log : List (Key × Call)

-- the body of the opening was taken
pub record TakesOpening (old : AskReplayOf) (body : List ℕ) (new : AskReplayOf) : Type 0 where
  pub first : old.text ≡ []
  pub body_is : body ≡ log_magic ++ new.text
  pub opening : IsOpeningText new.text
  pub log_is : new.log ≡ old.log

-- the body of a batch was taken, and its asks got the next numbers
pub record TakesBatch (old : AskReplayOf) (body : List ℕ) (new : AskReplayOf) : Type 0 where
  pub opened : old.text ≢ []
  pub text_is : new.text ≡ old.text
  pub batch : List (Key × Call)
  pub some : batch ≢ []
  pub valid : All IsAsk batch
  pub body_is : body ≡ asks_field batch
  pub log_is : new.log ≡ old.log ++ batch
  pub one_each : IsLog new.log

abbrev pub TakesBody : AskReplayOf → List ℕ → AskReplayOf → Type 0
TakesBody old body new = TakesOpening old body new ⊎ TakesBatch old body new

-- no log has this body here
abbrev pub RefusesBody : AskReplayOf → List ℕ → Type 0
RefusesBody old body = (new : AskReplayOf) → TakesBody old body new → ⊥
