-- The faults of the single steps of serving clients.
use Rattle.bank_server.specs.declared.fault.RunFault.{RunFault}
use Rattle.bank_server.specs.declared.fault.RunFault.TheVariants.{Device, OutOfMemory}
use Rattle.bank_server.specs.declared.session.turn_fault.TurnFault.{TurnFault}
use Rattle.bank_server.specs.declared.session.turn_fault.TurnFault.TheVariants as turn
use Rattle.bank_server.specs.inner.RunFaults.{run_of_crew_fault}
use Rattle.bank_service.specs.declared.serve_fault.ServeFault.{ServeFault}
use Rattle.bank_service.specs.declared.serve_fault.ServeFault.TheVariants.{Log, Run}

-- a device failed, or memory was refused
abbrev pub IsPrintRunFault : RunFault → Type 0
IsPrintRunFault Device = Unit {0}
IsPrintRunFault OutOfMemory = Unit {0}
IsPrintRunFault other = ⊥

abbrev pub IsPrintFault : ServeFault → Type 0
IsPrintFault (Run fault) = IsPrintRunFault fault
IsPrintFault other = ⊥

-- a server's fault if a turn fails
abbrev pub serve_of_turn_fault : TurnFault → ServeFault
serve_of_turn_fault (turn.Crew fault) = Run (run_of_crew_fault fault)
serve_of_turn_fault (turn.Log fault) = Log fault
