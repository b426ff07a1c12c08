-- The steps of telling outcomes.
use Rattle.std.specs.Prelude.{◌≡◌, ◌≢◌, ℕ, false, Result, Ok, Err, List, [], ◌∷◌, ◌++◌}
use Rattle.sb_frames.specs.Streaming.{StreamState}
use Rattle.sb_frames.specs.declared.frame.AskOutcome.{AskOutcome}
use Rattle.sb_frames.specs.declared.frame.Frame.{Frame}
use Rattle.sb_frames.specs.declared.frame.Frame.TheVariants.{Outcome}
use Rattle.ask_client.specs.Batches.{BatchOf, after_outcomes}
use Rattle.ask_client.specs.Conversations.{IsNoOutcome, TellsFirst}
use Rattle.ask_client.specs.OutcomeLines.{outcome_line}
use Rattle.ask_client.specs.declared.talk_fault.TalkFault.{TalkFault}
use Rattle.ask_client.specs.declared.talk_fault.TalkFault.TheVariants.{Connection, Unexpected, OutOfMemory}

-- a frame was told as the outcome of a batch's first call, or nothing changed
abbrev pub TellsFrame : BatchOf → Frame → Result (Unit {0}) TalkFault → List ℕ → List ℕ → BatchOf → Type 0
TellsFrame batch frame (Ok done) old_lines new_lines left = (outcome : AskOutcome)
    × (frame ≡ Outcome batch.client batch.first outcome)
    × (new_lines ≡ old_lines ++ (outcome_line batch.first outcome ++ 10 ∷ [])) × (left ≡ after_outcomes 1 batch)
TellsFrame batch frame (Err Unexpected) old_lines new_lines left =
    ((outcome : AskOutcome) → frame ≢ Outcome batch.client batch.first outcome)
    × (new_lines ≡ old_lines) × (left ≡ batch)
TellsFrame batch frame (Err OutOfMemory) old_lines new_lines left = (new_lines ≡ old_lines) × (left ≡ batch)
TellsFrame batch frame (Err Connection) old_lines new_lines left = ⊥

-- how the bytes of a batch's outcomes were taken
abbrev pub EndsTaking : Result (Unit {0}) TalkFault → BatchOf → List ℕ → StreamState → Type 0
EndsTaking (Ok done) left rest frames = (frames.failed ≡ false) × (rest ≡ frames.unread) × (left.calls ≡ [] → rest ≡ [])
EndsTaking (Err Unexpected) left rest frames = IsNoOutcome left rest
EndsTaking (Err OutOfMemory) left rest frames = Unit {0}
EndsTaking (Err Connection) left rest frames = ⊥

-- the first of these bytes were told, and the rest is as this says
abbrev pub TakesOutcomes : BatchOf → Result (Unit {0}) TalkFault → List ℕ → StreamState → List ℕ → List ℕ → BatchOf
    → Type 0
TakesOutcomes batch result bytes frames old_lines new_lines left =
    (rest : List ℕ) × TellsFirst batch bytes rest old_lines new_lines left × EndsTaking result left rest frames
