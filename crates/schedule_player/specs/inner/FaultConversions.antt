-- A schedule's fault from that of its text or of its input.
use Rattle.std.specs.Prelude.{◌≡◌, ℕ, Result, Err}
use Rattle.sb_text.specs.declared.input.ReadFault.{ReadFault}
use Rattle.sb_text.specs.declared.input.ReadFault.TheVariants as reading
use Rattle.schedule_player.specs.declared.fault.ScheduleFault.{ScheduleFault}
use Rattle.schedule_player.specs.declared.fault.ScheduleFault.TheVariants.{Input, Device, OutOfMemory}
use Rattle.schedule_text.specs.declared.fault.ScheduleLineFault.{ScheduleLineFault}
use Rattle.schedule_text.specs.declared.fault.TextFault.{TextFault}
use Rattle.schedule_text.specs.declared.fault.TextFault.TheVariants as text

-- a fault of a line of a text in memory is the first one; no device can fail there
abbrev pub BlamesScheduleText : {A : Type 0} → ScheduleFault → Result A (ℕ × ScheduleLineFault) → Type 0
BlamesScheduleText (Input line fault) read = read ≡ Err (line, fault)
BlamesScheduleText Device read = ⊥
BlamesScheduleText OutOfMemory read = Unit {0}

-- the fault for an input that can't be read, and for a text at fault
abbrev pub schedule_read_fault : ReadFault → ScheduleFault
schedule_read_fault reading.Device = Device
schedule_read_fault reading.OutOfMemory = OutOfMemory

abbrev pub schedule_text_fault : TextFault → ScheduleFault
schedule_text_fault (text.Line line fault) = Input line fault
schedule_text_fault text.OutOfMemory = OutOfMemory
