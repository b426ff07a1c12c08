-- The note on a replica's answer to a frame.
use Rattle.sb_replica.specs.declared.heard.Heard.{Heard}
use Rattle.sb_replica.specs.declared.heard.Heard.TheVariants as heard
use Rattle.schedule_text.specs.declared.note.Note.{Note}
use Rattle.schedule_text.specs.declared.note.Note.TheVariants as note

-- a replica's answer to a frame, as a note
abbrev pub note_of_heard : Heard → Note
note_of_heard (heard.Accepted number) = note.Accepted number
note_of_heard (heard.Repeat number) = note.Repeat number
note_of_heard (heard.Gap size) = note.Gap size
note_of_heard (heard.Held number) = note.Held number
note_of_heard (heard.Busy size) = note.Busy size
note_of_heard heard.Ignored = note.Nothing
