-- Storing an answer in a slot.
use Rattle.std.specs.Prelude.{◌≡◌, ◌≢◌, ℕ, Option, Some, None, List, slice_get, slice_set}
use Rattle.sb_calls.specs.declared.reply.Reply.{Reply}
use Rattle.sb_sequencer.specs.declared.note.AnswerNote.{AnswerNote}
use Rattle.sb_sequencer.specs.declared.note.AnswerNote.TheVariants.{Kept, Repeat, Odd, Unknown}

-- a further answer is the first one again, or is odd
abbrev pub ComparesAnswers : Reply → Reply → AnswerNote → Type 0
ComparesAnswers first further Repeat = first ≡ further
ComparesAnswers first further Odd = first ≢ further
ComparesAnswers first further Kept = ⊥
ComparesAnswers first further Unknown = ⊥

-- the first answer in a slot is stored, and each further answer is compared with it
abbrev pub StoresAnswer : List (Option Reply) → ℕ → Reply → AnswerNote → List (Option Reply) → Type 0
StoresAnswer old slot reply Kept new = (slice_get old slot ≡ Some None) × (new ≡ slice_set old slot (Some reply))
StoresAnswer old slot reply Repeat new = (slice_get old slot ≡ Some (Some reply)) × (new ≡ old)
StoresAnswer old slot reply Odd new = ((first : Reply) × (slice_get old slot ≡ Some (Some first)) × (first ≢ reply)) ×
    (new ≡ old)
StoresAnswer old slot reply Unknown new = ⊥
