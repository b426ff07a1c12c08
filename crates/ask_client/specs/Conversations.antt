-- One batch over one connection.
use Rattle.std.specs.Prelude.{◌≡◌, ◌≢◌, ◌≤◌, ℕ, Option, Result, Ok, Err, List, [], ◌++◌, length}
use Rattle.std.specs.Io.KnownBytes.{Consumes}
use Rattle.std.specs.List.{flat_map}
use Rattle.sb_rows.specs.Text.{unlines}
use Rattle.sb_frames.specs.Grammar.{IsFrame, spelling}
use Rattle.sb_frames.specs.declared.frame.AskOutcome.{AskOutcome}
use Rattle.sb_frames.specs.declared.frame.Frame.TheVariants.{Outcome}
use Rattle.ask_client.specs.Batches.{BatchOf, after_outcomes, outcome_frames}
use Rattle.ask_client.specs.OutcomeLines.{outcome_lines}
use Rattle.ask_client.specs.declared.talk_fault.TalkFault.{TalkFault}
use Rattle.ask_client.specs.declared.talk_fault.TalkFault.TheVariants.{Connection, Unexpected, OutOfMemory}

-- the bytes are one whole frame for each of the first calls of a batch, in order: the outcome of that call's
-- own ask; and then the rest. Just the lines of these outcomes were appended, and this batch is left
pub record TellsFirst (batch : BatchOf) (bytes rest old_lines new_lines : List ℕ) (left : BatchOf) : Type 0 where
  pub told : List AskOutcome
  pub within : length told ≤ length batch.calls
  pub bytes_are : bytes ≡ flat_map spelling (outcome_frames batch.client batch.first told) ++ rest
  pub lines_are : new_lines ≡ old_lines ++ unlines (outcome_lines batch.first told)
  pub left_is : left ≡ after_outcomes (length told) batch

-- there are bytes, and however they go on, they begin with no outcome of the batch's first call
abbrev pub IsNoOutcome : BatchOf → List ℕ → Type 0
IsNoOutcome batch bytes = (bytes ≢ []) × ((outcome : AskOutcome) (more behind : List ℕ) → batch.calls ≢ []
    → IsFrame (Outcome batch.client batch.first outcome)
    → bytes ++ more ≢ spelling (Outcome batch.client batch.first outcome) ++ behind)

-- how a batch was left, and the rest of what came
abbrev pub EndsTalk : Result (Unit {0}) TalkFault → BatchOf → List ℕ → Type 0
-- each call has its outcome, and nothing else came
EndsTalk (Ok done) left rest = (left.calls ≡ []) × (rest ≡ [])
EndsTalk (Err Unexpected) left rest = IsNoOutcome left rest
-- part of an outcome may have come
EndsTalk (Err Connection) left rest = Unit {0}
EndsTalk (Err OutOfMemory) left rest = Unit {0}

-- what came over a connection was told, and the talk ended so
abbrev pub Hears : BatchOf → Result (Unit {0}) TalkFault → Option (List ℕ) → Option (List ℕ) → List ℕ → List ℕ
    → BatchOf → Type 0
Hears batch result unread_old unread_new old_lines new_lines left = (bytes rest : List ℕ)
    × Consumes unread_old unread_new bytes × TellsFirst batch bytes rest old_lines new_lines left
    × EndsTalk result left rest
