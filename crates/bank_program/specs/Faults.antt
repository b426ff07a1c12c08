-- How the program ends after a fault.
use Rattle.std.specs.Prelude.{ℕ, Option, Some, None}
use Rattle.bank_server.specs.declared.fault.RunFault.{RunFault}
use Rattle.bank_server.specs.declared.fault.RunFault.TheVariants.{Input, Strayed, CrewGone, Device, OutOfMemory}
use Rattle.schedule_player.specs.declared.fault.ScheduleFault.{ScheduleFault}
use Rattle.schedule_player.specs.declared.fault.ScheduleFault.TheVariants as schedule
use Rattle.bank_program.specs.declared.fault.ProgramFault.{ProgramFault}
use Rattle.bank_program.specs.declared.fault.ProgramFault.TheVariants.{Run, UnendedLine, Play, Serve, Log, Checkpoint, Ask}
use Rattle.ask_client.specs.declared.ask_fault.AskFault.{AskFault}
use Rattle.ask_client.specs.declared.ask_fault.AskFault.TheVariants as ask
use Rattle.bank_service.specs.ListFaults.{list_status}
use Rattle.bank_service.specs.declared.list_fault.ListFault.TheVariants as list
use Rattle.bank_service.specs.declared.serve_fault.ServeFault.{ServeFault}
use Rattle.bank_service.specs.declared.serve_fault.ServeFault.TheVariants as serve

-- 1 for an input that is refused, 3 for every other fault
abbrev pub run_status : RunFault → ℕ
run_status (Input line fault) = 1
run_status (Strayed node reason) = 3
run_status CrewGone = 3
run_status Device = 3
run_status OutOfMemory = 3

-- the same for playing a schedule
abbrev pub play_status : ScheduleFault → ℕ
play_status (schedule.Input line fault) = 1
play_status schedule.Device = 3
play_status schedule.OutOfMemory = 3

-- the same for serving a bank
abbrev pub serve_status : ServeFault → ℕ
serve_status (serve.Run fault) = run_status fault
serve_status serve.ReadBack = 3
serve_status serve.Store = 3
serve_status serve.StoreInUse = 3
serve_status (serve.PortTaken port) = 3
serve_status (serve.Log fault) = 3
serve_status serve.AnotherOpening = 3

-- the same for asking a bank
abbrev pub ask_status : AskFault → ℕ
ask_status (ask.Line line fault) = 1
ask_status (ask.NoNumber line) = 1
ask_status other = 3

-- the exit status
abbrev pub exit_status : ProgramFault → ℕ
exit_status (Run fault) = run_status fault
exit_status UnendedLine = 1
exit_status (Play fault) = play_status fault
exit_status (Serve fault) = serve_status fault
exit_status (Log fault) = list_status fault
exit_status (Checkpoint fault) = 1
exit_status (Ask fault) = ask_status fault

-- a fault of a log's file is told with the file's path
abbrev pub IsTold : ProgramFault → Type 0
IsTold (Serve (serve.Log fault)) = Unit {0}
IsTold (Log (list.Log fault)) = Unit {0}
IsTold (Log list.Rest) = Unit {0}
IsTold other = ⊥

-- a device failed, of which the fault says no more
abbrev pub IsOfDevice : ProgramFault → Type 0
IsOfDevice (Run Device) = Unit {0}
IsOfDevice (Play schedule.Device) = Unit {0}
IsOfDevice (Serve (serve.Run Device)) = Unit {0}
IsOfDevice (Serve serve.ReadBack) = Unit {0}
IsOfDevice (Serve serve.Store) = Unit {0}
IsOfDevice (Log list.Device) = Unit {0}
IsOfDevice (Ask ask.Input) = Unit {0}
IsOfDevice (Ask ask.Output) = Unit {0}
IsOfDevice (Ask ask.Connection) = Unit {0}
IsOfDevice (Ask ask.End) = Unit {0}
IsOfDevice other = ⊥

-- the line of the input that is at fault, if one is
abbrev pub line_at_fault : ProgramFault → Option ℕ
line_at_fault (Run (Input line fault)) = Some line
line_at_fault (Play (schedule.Input line fault)) = Some line
line_at_fault (Serve (serve.Run (Input line fault))) = Some line
line_at_fault (Ask (ask.Line line fault)) = Some line
line_at_fault other = None
