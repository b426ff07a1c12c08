-- What a fault of serving a bank means.
use Rattle.std.specs.Prelude.{◌≡◌, ℕ, Bool, true}
use Rattle.bank_server.specs.Faults.{IsFollower}
use Rattle.bank_server.specs.declared.fault.RunFault.{RunFault}
use Rattle.bank_server.specs.declared.fault.RunFault.TheVariants.{Input, Strayed, CrewGone, Device}
use Rattle.bank_service.specs.declared.serve_fault.ServeFault.{ServeFault}
use Rattle.bank_service.specs.declared.serve_fault.ServeFault.TheVariants.{Run, ReadBack, PortTaken, Log, AnotherOpening}

-- a device failed
abbrev pub IsDeviceFault : RunFault → Type 0
IsDeviceFault Device = Unit {0}
IsDeviceFault other = ⊥

-- this port is taken, or a device failed
abbrev pub IsPortFault : ℕ → ServeFault → Type 0
IsPortFault port (Run fault) = IsDeviceFault fault
IsPortFault port (PortTaken taken) = taken ≡ port
IsPortFault port other = ⊥

-- a device failed, memory was refused, or the crew is gone, as it may be
abbrev pub IsFinishRunFault : Type 0 → RunFault → Type 0
IsFinishRunFault MayBeGone (Input line fault) = ⊥
IsFinishRunFault MayBeGone (Strayed node reason) = ⊥
IsFinishRunFault MayBeGone CrewGone = MayBeGone
IsFinishRunFault MayBeGone other = Unit {0}

-- the same; or the bank saves, and its store gives back something else; or keeping the log may fail,
-- and did
abbrev pub IsFinishFault : Type 0 → Bool → Bool → ServeFault → Type 0
IsFinishFault MayBeGone saves fails (Run fault) = IsFinishRunFault MayBeGone fault
IsFinishFault MayBeGone saves fails ReadBack = saves ≡ true
IsFinishFault MayBeGone saves fails (Log fault) = fails ≡ true
IsFinishFault MayBeGone saves fails other = ⊥

-- the same, or a follower among this many nodes strayed
abbrev pub IsServingRunFault : ℕ → Type 0 → RunFault → Type 0
IsServingRunFault nodes MayBeGone (Strayed node reason) = IsFollower nodes node
IsServingRunFault nodes MayBeGone other = IsFinishRunFault MayBeGone other

-- serving a bank of this many nodes, whose crew may be gone, which saves or doesn't, and whose log's
-- keeper may fail or not, may end with this fault
abbrev pub IsServingFault : ℕ → Type 0 → Bool → Bool → ServeFault → Type 0
IsServingFault nodes MayBeGone saves fails (Run fault) = IsServingRunFault nodes MayBeGone fault
IsServingFault nodes MayBeGone saves fails other = IsFinishFault MayBeGone saves fails other

-- a line of the opening is at fault, a device failed, or memory was refused
abbrev pub IsOpeningRunFault : RunFault → Type 0
IsOpeningRunFault (Strayed node reason) = ⊥
IsOpeningRunFault CrewGone = ⊥
IsOpeningRunFault other = Unit {0}

-- the log has another opening, or can't be read or kept; or a line of the opening is at fault, or memory was
-- refused
abbrev pub IsBankFault : ServeFault → Type 0
IsBankFault (Run fault) = IsOpeningRunFault fault
IsBankFault (Log fault) = Unit {0}
IsBankFault AnotherOpening = Unit {0}
IsBankFault other = ⊥
