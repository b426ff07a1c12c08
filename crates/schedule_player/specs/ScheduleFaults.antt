-- What a fault of a schedule means.
use Rattle.std.specs.Prelude.{◌≡◌, ℕ, Option, Result, Err, List}
use Rattle.std.specs.Io.KnownBytes.{Keeps}
use Rattle.schedule_player.specs.declared.fault.ScheduleFault.{ScheduleFault}
use Rattle.schedule_player.specs.declared.fault.ScheduleFault.TheVariants.{Input, Device, OutOfMemory}
use Rattle.schedule_text.specs.declared.fault.ScheduleLineFault.{ScheduleLineFault}

-- a fault of a line is the first one in the text
abbrev pub BlamesSchedule : {A : Type 0} → ScheduleFault → Result A (ℕ × ScheduleLineFault) → Type 0
BlamesSchedule (Input line fault) read = read ≡ Err (line, fault)
BlamesSchedule Device read = Unit {0}
BlamesSchedule OutOfMemory read = Unit {0}

-- unless a device failed, nothing was written
abbrev pub LeavesWriter : ScheduleFault → Option (List ℕ) → Option (List ℕ) → Type 0
LeavesWriter Device old new = Unit {0}
LeavesWriter other old new = Keeps old new
