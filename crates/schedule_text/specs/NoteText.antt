-- How a note is spelled.
use Rattle.std.specs.Prelude.{ℕ, List, ◌∷◌, ◌++◌, decimal, codes}
use Rattle.sb_amount.specs.Money.{money}
use Rattle.sb_calls.specs.ReplyText.{reply_text}
use Rattle.schedule_text.specs.declared.note.AuditNote.{AuditNote}
use Rattle.schedule_text.specs.declared.note.AuditNote.TheVariants as audit
use Rattle.schedule_text.specs.declared.note.Column.{Column}
use Rattle.schedule_text.specs.declared.note.Column.TheVariants.{Savings, Checking}
use Rattle.schedule_text.specs.declared.note.Note.{Note}
use Rattle.schedule_text.specs.declared.note.Note.TheVariants as note

abbrev pub column_text : Column → List ℕ
column_text Savings = codes "savings"
column_text Checking = codes "checking"

-- the result of comparing two replicas; totals are money
abbrev pub audit_line : AuditNote → List ℕ
audit_line (audit.Busy replica) = codes "busy " ++ decimal replica
audit_line (audit.Apart first second) = codes "apart " ++ (decimal first ++ (32 ∷ decimal second))
audit_line (audit.Differ column place) = codes "differ " ++ (column_text column ++ (32 ∷ decimal place))
audit_line (audit.OffBooks total expected) = codes "off books " ++ (money total ++ (32 ∷ money expected))
audit_line (audit.Same total overdrawn) = codes "same " ++ (money total ++ (32 ∷ decimal overdrawn))

-- how a note is spelled
abbrev pub note_line : Note → List ℕ
note_line (note.New number) = codes "new " ++ decimal number
note_line (note.Repeat number) = codes "repeat " ++ decimal number
note_line (note.Mismatch number) = codes "mismatch " ++ decimal number
note_line note.LogFull = codes "log full"
note_line (note.Synced size) = codes "synced " ++ decimal size
note_line (note.Crashed size) = codes "crashed " ++ decimal size
note_line (note.Sent position) = codes "sent " ++ decimal position
note_line (note.Resent count) = codes "resent " ++ decimal count
note_line (note.Accepted number) = codes "accepted " ++ decimal number
note_line (note.Held number) = codes "held " ++ decimal number
note_line (note.Gap size) = codes "gap " ++ decimal size
note_line (note.Busy size) = codes "busy " ++ decimal size
note_line (note.Recorded size) = codes "recorded " ++ decimal size
note_line note.Odd = codes "odd"
note_line (note.Kept number) = codes "kept " ++ decimal number
note_line (note.OddAnswer number) = codes "odd " ++ decimal number
note_line (note.Unknown number) = codes "unknown " ++ decimal number
note_line (note.Took number) = codes "took " ++ decimal number
note_line note.HandFull = codes "hand full"
note_line (note.Finished number reply) = codes "finished " ++ (decimal number ++ (32 ∷ reply_text reply))
note_line (note.Stranger number) = codes "stranger " ++ decimal number
note_line (note.Marked size) = codes "marked " ++ decimal size
note_line note.Unfinished = codes "busy"
note_line note.StoreFault = codes "store fault"
note_line (note.Restarted size) = codes "restarted " ++ decimal size
note_line (note.Cut size) = codes "cut " ++ decimal size
note_line (note.Pending size) = codes "pending " ++ decimal size
note_line (note.Has size) = codes "has " ++ decimal size
note_line (note.Donor donor size) = codes "donor " ++ (decimal donor ++ (32 ∷ decimal size))
note_line (note.Gave position) = codes "gave " ++ decimal position
note_line (note.Adopted size) = codes "adopted " ++ decimal size
note_line (note.Behind size) = codes "behind " ++ decimal size
note_line (note.Audit found) = audit_line found
note_line note.Nothing = codes "nothing"
