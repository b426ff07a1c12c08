-- What a fault of a run means.
use Rattle.std.specs.Prelude.{◌≡◌, ◌<◌, ◌≤◌, ℕ, Bool, false, Option, Result, Ok, Err, List}
use Rattle.std.specs.Io.KnownBytes.{Appends, Keeps}
use Rattle.cown_workers.specs.declared.crew_fault.CrewFault.{CrewFault}
use Rattle.cown_workers.specs.declared.crew_fault.CrewFault.TheVariants as crew
use Rattle.cown_board.specs.Board.{BoardOf}
use Rattle.cown_workers.specs.Draining.{HasNoneOut}
use Rattle.sb_calls.specs.declared.op.Op.{Op}
use Rattle.bank_server.specs.declared.fault.InputFault.{InputFault}
use Rattle.bank_server.specs.declared.fault.RunFault.{RunFault}
use Rattle.bank_server.specs.declared.fault.RunFault.TheVariants.{Input, Strayed, CrewGone, Device, OutOfMemory}

-- the output was written; an input at fault has none
abbrev pub Writes : Result (List ℕ) (ℕ × InputFault) → Option (List ℕ) → Option (List ℕ) → Type 0
Writes (Ok output) old new = Appends old new output
Writes (Err fault) old new = ⊥

-- a fault of the input is its first one
abbrev pub IsFirstInputFault : {A : Type 0} → RunFault → Result A (ℕ × InputFault) → Type 0
IsFirstInputFault (Input line fault) read = read ≡ Err (line, fault)
IsFirstInputFault other read = Unit {0}

-- the same for a text in memory that isn't executed: no device, node or crew can fail
abbrev pub IsTextFaultOf : {A : Type 0} → RunFault → Result A (ℕ × InputFault) → Type 0
IsTextFaultOf (Input line fault) read = read ≡ Err (line, fault)
IsTextFaultOf OutOfMemory read = Unit {0}
IsTextFaultOf other read = ⊥

-- unless a device failed, nothing was written
abbrev pub LeavesOutput : RunFault → Option (List ℕ) → Option (List ℕ) → Type 0
LeavesOutput Device old new = Unit {0}
LeavesOutput other old new = Keeps old new

-- memory was refused, or the crew is gone; a crew that keeps no job is never gone if no op was out
abbrev pub IsExecutionFault : Bool → BoardOf Op → CrewFault → Type 0
IsExecutionFault keeps board crew.CrewGone = keeps ≡ false → ¬ HasNoneOut board
IsExecutionFault keeps board crew.OutOfMemory = Unit {0}

-- a follower among this many nodes: each node but node 0
abbrev pub IsFollower : ℕ → ℕ → Type 0
IsFollower nodes node = (1 ≤ node) × (node < nodes)

-- memory was refused, or a follower among this many nodes strayed
abbrev pub IsFollowersFault : ℕ → RunFault → Type 0
IsFollowersFault nodes (Strayed node reason) = IsFollower nodes node
IsFollowersFault nodes OutOfMemory = Unit {0}
IsFollowersFault nodes other = ⊥

-- what ends a run of this many nodes and workers once its input was read: a follower strayed, or
-- there are workers and the crew is gone, or memory was refused
abbrev pub IsNodesFault : ℕ → ℕ → RunFault → Type 0
IsNodesFault nodes workers (Strayed node reason) = IsFollower nodes node
IsNodesFault nodes workers CrewGone = 0 < workers
IsNodesFault nodes workers OutOfMemory = Unit {0}
IsNodesFault nodes workers other = ⊥

-- only a follower among this many nodes strays
abbrev pub StraysAmong : ℕ → RunFault → Type 0
StraysAmong nodes (Strayed node reason) = IsFollower nodes node
StraysAmong nodes other = Unit {0}

-- the crew is gone only if there are workers
abbrev pub LosesWorkers : ℕ → RunFault → Type 0
LosesWorkers workers CrewGone = 0 < workers
LosesWorkers workers other = Unit {0}
