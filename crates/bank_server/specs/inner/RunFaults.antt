-- Where a run's faults come from: its input, its followers and its crew.
use Rattle.std.specs.Prelude.{◌≢◌, ◌<◌, ℕ, Bool, false}
use Rattle.sb_rows.specs.declared.fault.OpeningFault.{OpeningFault}
use Rattle.sb_rows.specs.declared.fault.OpeningFault.TheVariants as openings
use Rattle.sb_text.specs.declared.input.ReadFault.{ReadFault}
use Rattle.sb_text.specs.declared.input.ReadFault.TheVariants as reading
use Rattle.cown_workers.specs.declared.crew_fault.CrewFault.{CrewFault}
use Rattle.cown_workers.specs.declared.crew_fault.CrewFault.TheVariants as crew
use Rattle.bank_server.specs.Faults.{IsFollower}
use Rattle.bank_server.specs.declared.fault.InputFault.TheVariants.{Opening}
use Rattle.bank_server.specs.declared.fault.RunFault.{RunFault}
use Rattle.bank_server.specs.declared.fault.RunFault.TheVariants.{Input, Strayed, CrewGone, Device, OutOfMemory}

-- a run's fault for an input that can't be read
abbrev pub run_of_read_fault : ReadFault → RunFault
run_of_read_fault reading.Device = Device
run_of_read_fault reading.OutOfMemory = OutOfMemory

-- a run's fault for an opening at fault
abbrev pub run_of_opening_fault : OpeningFault → RunFault
run_of_opening_fault (openings.Line line fault) = Input line (Opening fault)
run_of_opening_fault openings.OutOfMemory = OutOfMemory

-- memory was refused, or a follower among this many nodes strayed, or the crew is gone; a crew that
-- keeps no job is never gone
abbrev pub IsTeamFault : ℕ → Bool → RunFault → Type 0
IsTeamFault nodes keeps (Strayed node reason) = IsFollower nodes node
IsTeamFault nodes keeps CrewGone = keeps ≢ false
IsTeamFault nodes keeps OutOfMemory = Unit {0}
IsTeamFault nodes keeps other = ⊥

-- memory was refused, or the crew is gone; without workers it never is
abbrev pub IsWorkersFault : ℕ → RunFault → Type 0
IsWorkersFault workers CrewGone = 0 < workers
IsWorkersFault workers OutOfMemory = Unit {0}
IsWorkersFault workers other = ⊥

-- a run's fault for a fault of its crew
abbrev pub run_of_crew_fault : CrewFault → RunFault
run_of_crew_fault crew.CrewGone = CrewGone
run_of_crew_fault crew.OutOfMemory = OutOfMemory
