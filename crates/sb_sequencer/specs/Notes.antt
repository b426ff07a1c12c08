-- What replicas report to a sequencer: the note on it, and its effect.
use Rattle.std.specs.Prelude.{◌≡◌, ◌≢◌, ℕ, zero, suc, ◌-◌, nat_lt, nat_le, Bool, ◌&&◌, if◌then◌else◌, Option, Some, None, length, slice_get, slice_set}
use Rattle.std.specs.Option.{option_and_then, option_flatten}
use Rattle.sb_calls.specs.declared.ask.Key.{Key}
use Rattle.sb_calls.specs.declared.reply.Reply.{Reply}
use Rattle.sb_sequencer.specs.Numbering.{index_of_key}
use Rattle.sb_sequencer.specs.Sequencer.{SequencerOf}
use Rattle.sb_sequencer.specs.declared.note.AckNote.{AckNote}
use Rattle.sb_sequencer.specs.declared.note.AckNote.TheVariants as acks
use Rattle.sb_sequencer.specs.declared.note.HaveNote.{HaveNote}
use Rattle.sb_sequencer.specs.declared.note.HaveNote.TheVariants as haves
use Rattle.sb_sequencer.specs.declared.note.AnswerNote.{AnswerNote}
use Rattle.sb_sequencer.specs.declared.note.AnswerNote.TheVariants as answers

-- a length is recorded if the replica exists and the log is at least as long
abbrev pub records_length : SequencerOf → ℕ → ℕ → Bool
records_length s replica size = nat_lt replica (length s.recorded) && nat_le size (length s.log)

-- ---- how much of the log a replica has

-- the note on an acknowledgement
abbrev pub note_of_ack : SequencerOf → ℕ → ℕ → AckNote
note_of_ack s replica size = if records_length s replica size then acks.Recorded else acks.Odd

-- a recorded length replaces the old one
abbrev pub after_ack_note : SequencerOf → ℕ → ℕ → AckNote → SequencerOf
after_ack_note s replica size acks.Recorded = record s { recorded = slice_set s.recorded replica size }
after_ack_note s replica size acks.Odd = s

-- the sequencer after an acknowledgement
abbrev pub after_ack : SequencerOf → ℕ → ℕ → SequencerOf
after_ack s replica size = after_ack_note s replica size (note_of_ack s replica size)

-- ---- the length of the checkpoint that a replica keeps

-- the note on a checkpoint's length
abbrev pub note_of_have : SequencerOf → ℕ → ℕ → HaveNote
note_of_have s replica size = if records_length s replica size then haves.Recorded else haves.Odd

-- a recorded length replaces the old one
abbrev pub after_have_note : SequencerOf → ℕ → ℕ → HaveNote → SequencerOf
after_have_note s replica size haves.Recorded = record s { checkpoints = slice_set s.checkpoints replica size }
after_have_note s replica size haves.Odd = s

-- the sequencer after a report of the length of a replica's checkpoint
abbrev pub after_have : SequencerOf → ℕ → ℕ → SequencerOf
after_have s replica size = after_have_note s replica size (note_of_have s replica size)

-- ---- what a call was answered

-- the slot for the answer to a number, counted from 1, if the log has it
abbrev pub answer_slot : SequencerOf → ℕ → Option (Option Reply)
answer_slot s zero = None
answer_slot s (suc index) = slice_get s.answers index

-- the first answer to a number is kept, and each further answer is compared with it
abbrev pub IsAnswerNote : SequencerOf → ℕ → Reply → AnswerNote → Type 0
IsAnswerNote s n reply answers.Kept = answer_slot s n ≡ Some None
IsAnswerNote s n reply answers.Repeat = answer_slot s n ≡ Some (Some reply)
IsAnswerNote s n reply answers.Odd = (first : Reply) × (answer_slot s n ≡ Some (Some first)) × (first ≢ reply)
IsAnswerNote s n reply answers.Unknown = answer_slot s n ≡ None

-- only an answer that is kept changes the sequencer
abbrev pub after_answer : SequencerOf → ℕ → Reply → AnswerNote → SequencerOf
after_answer s n reply answers.Kept = record s { answers = slice_set s.answers (n - 1) (Some reply) }
after_answer s n reply answers.Repeat = s
after_answer s n reply answers.Odd = s
after_answer s n reply answers.Unknown = s

-- the answer to the number of a key, if it has one
abbrev pub answer_of : SequencerOf → Key → Option Reply
answer_of s key = option_and_then (λ index. option_flatten (slice_get s.answers index)) (index_of_key s.log key)
