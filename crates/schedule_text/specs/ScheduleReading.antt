-- The answer of a schedule's reader, against what the text says.
use Rattle.std.specs.Prelude.{◌≡◌, ℕ, Result, Ok, Err}
use Rattle.schedule_text.specs.ScheduleText.{ScheduleOf}
use Rattle.schedule_text.specs.declared.fault.ScheduleLineFault.{ScheduleLineFault}
use Rattle.schedule_text.specs.declared.fault.TextFault.{TextFault}
use Rattle.schedule_text.specs.declared.fault.TextFault.TheVariants.{Line, OutOfMemory}
use Rattle.schedule_text.specs.declared.schedule.Schedule.{Schedule}

abbrev pub schedule_value : Schedule → ScheduleOf
schedule_value schedule = record {
  nodes = schedule.nodes;
  workers = schedule.workers;
  names = schedule.directory;
  balances = schedule.columns;
  events = schedule.events;
}

-- the schedule that the text says, or its first fault; memory may be refused instead
abbrev pub ReadsSchedule : Result Schedule TextFault → Result ScheduleOf (ℕ × ScheduleLineFault) → Type 0
ReadsSchedule (Ok schedule) read = read ≡ Ok (schedule_value schedule)
ReadsSchedule (Err (Line line fault)) read = read ≡ Err (line, fault)
ReadsSchedule (Err OutOfMemory) read = Unit {0}
