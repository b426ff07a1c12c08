-- The faults of a flush.
use Rattle.bank_server.specs.declared.session.session_fault.SessionFault.{SessionFault}
use Rattle.bank_server.specs.declared.session.session_fault.SessionFault.TheVariants.{CrewGone, Device, OutOfMemory, Log}

-- the log can't be executed or kept, or a write failed
abbrev pub IsFlushFault : SessionFault → Type 0
IsFlushFault CrewGone = Unit {0}
IsFlushFault Device = Unit {0}
IsFlushFault OutOfMemory = Unit {0}
IsFlushFault (Log fault) = Unit {0}
IsFlushFault other = ⊥
