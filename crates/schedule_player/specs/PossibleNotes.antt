-- The notes that may result from an event.
use Rattle.std.specs.Prelude.{Bool, true, false}
use Rattle.schedule_text.specs.declared.note.AuditNote.{AuditNote}
use Rattle.schedule_text.specs.declared.note.AuditNote.TheVariants as audit
use Rattle.schedule_text.specs.declared.note.Note.{Note}
use Rattle.schedule_text.specs.declared.note.Note.TheVariants as note

-- two replicas of one length never differ, and never disagree with the books
abbrev pub audit_may_occur : AuditNote → Bool
audit_may_occur (audit.Differ column place) = false
audit_may_occur (audit.OffBooks total expected) = false
audit_may_occur (audit.Busy replica) = true
audit_may_occur (audit.Apart first second) = true
audit_may_occur (audit.Same total overdrawn) = true

-- whether a note may come: not that a length or reply is odd, a number unknown, or an audit
-- different or off the books
abbrev pub may_occur : Note → Bool
may_occur note.Odd = false
may_occur (note.OddAnswer number) = false
may_occur (note.Unknown number) = false
may_occur (note.Audit found) = audit_may_occur found
may_occur other = true
