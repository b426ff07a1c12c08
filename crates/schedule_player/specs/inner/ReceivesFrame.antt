-- What the sequencer does with a frame.
use Rattle.std.specs.Prelude.{◌≡◌, ℕ}
use Rattle.sb_frames.specs.declared.frame.Frame.{Frame}
use Rattle.sb_frames.specs.declared.frame.Frame.TheVariants as frame
use Rattle.sb_sequencer.specs.Notes.{note_of_ack, after_ack, note_of_have, after_have, IsAnswerNote, after_answer}
use Rattle.sb_sequencer.specs.Sequencer.{SequencerOf}
use Rattle.sb_sequencer.specs.declared.note.AckNote.{AckNote}
use Rattle.sb_sequencer.specs.declared.note.AckNote.TheVariants as acks
use Rattle.sb_sequencer.specs.declared.note.AnswerNote.{AnswerNote}
use Rattle.sb_sequencer.specs.declared.note.AnswerNote.TheVariants as answers
use Rattle.sb_sequencer.specs.declared.note.HaveNote.{HaveNote}
use Rattle.sb_sequencer.specs.declared.note.HaveNote.TheVariants as haves
use Rattle.schedule_text.specs.declared.note.Note.{Note}
use Rattle.schedule_text.specs.declared.note.Note.TheVariants as note

-- its note on the length of a log, on that of a checkpoint, and on a reply
abbrev pub ack_note : ℕ → AckNote → Note
ack_note size acks.Recorded = note.Recorded size
ack_note size acks.Odd = note.Odd

abbrev pub have_note : ℕ → HaveNote → Note
have_note size haves.Recorded = note.Has size
have_note size haves.Odd = note.Odd

abbrev pub answer_note : ℕ → AnswerNote → Note
answer_note number answers.Kept = note.Kept number
answer_note number answers.Repeat = note.Repeat number
answer_note number answers.Odd = note.OddAnswer number
answer_note number answers.Unknown = note.Unknown number

-- it takes only the frames that replicas send
abbrev pub ReceivesFrame : SequencerOf → Frame → Note → SequencerOf → Type 0
ReceivesFrame old (frame.Ack replica size) noted new =
    (noted ≡ ack_note size (note_of_ack old replica size)) × (new ≡ after_ack old replica size)
ReceivesFrame old (frame.Have replica size) noted new =
    (noted ≡ have_note size (note_of_have old replica size)) × (new ≡ after_have old replica size)
ReceivesFrame old (frame.Answer number reply) noted new =
    (answer : AnswerNote) × IsAnswerNote old number reply answer
    × (noted ≡ answer_note number answer) × (new ≡ after_answer old number reply answer)
ReceivesFrame old other noted new = (noted ≡ note.Nothing) × (new ≡ old)
