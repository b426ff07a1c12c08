-- The first fault of one part of a schedule's text.
use Rattle.std.specs.Prelude.{◌≡◌, ℕ, Result, Err}
use Rattle.schedule_text.specs.declared.fault.ScheduleLineFault.{ScheduleLineFault}
use Rattle.schedule_text.specs.declared.fault.TextFault.{TextFault}
use Rattle.schedule_text.specs.declared.fault.TextFault.TheVariants.{Line, OutOfMemory}

-- the first line at fault of a part; memory may be refused instead
abbrev pub BlamesLine : {A : Type 0} → TextFault → Result A (ℕ × ScheduleLineFault) → Type 0
BlamesLine (Line line fault) read = read ≡ Err (line, fault)
BlamesLine OutOfMemory read = Unit {0}
