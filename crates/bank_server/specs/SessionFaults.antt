-- What a fault of a session means.
use Rattle.std.specs.Prelude.{◌≡◌, ℕ, Bool, false, Result, Ok, Err}
use Rattle.cown_board.specs.Board.{BoardOf}
use Rattle.cown_workers.specs.Draining.{HasNoneOut}
use Rattle.cown_workers.specs.declared.crew_fault.CrewFault.{CrewFault}
use Rattle.cown_workers.specs.declared.crew_fault.CrewFault.TheVariants as crew
use Rattle.sb_ask_log.specs.Keeping.{IsKeepFault}
use Rattle.sb_calls.specs.declared.op.Op.{Op}
use Rattle.bank_server.specs.declared.session.session_fault.SessionFault.{SessionFault}
use Rattle.bank_server.specs.declared.session.session_fault.SessionFault.TheVariants.{Frame, Unexpected, CrewGone, Device, OutOfMemory, Log, TooMany}
use Rattle.bank_server.specs.declared.session.turn_fault.TurnFault.{TurnFault}
use Rattle.bank_server.specs.declared.session.turn_fault.TurnFault.TheVariants as turn

-- a fault's number
abbrev pub session_fault_number : SessionFault → ℕ
session_fault_number (Frame fault) = 1
session_fault_number Unexpected = 2
session_fault_number CrewGone = 3
session_fault_number Device = 4
session_fault_number OutOfMemory = 5
session_fault_number (Log fault) = 6
session_fault_number TooMany = 7

-- a session's fault if its log can't be executed
abbrev pub session_of_crew_fault : CrewFault → SessionFault
session_of_crew_fault crew.CrewGone = CrewGone
session_of_crew_fault crew.OutOfMemory = OutOfMemory

-- a session's fault if a turn of it fails
abbrev pub session_of_turn_fault : TurnFault → SessionFault
session_of_turn_fault (turn.Crew fault) = session_of_crew_fault fault
session_of_turn_fault (turn.Log fault) = Log fault

-- this result, with its fault as that of a session
abbrev pub as_session : {T F : Type 0} → (F → SessionFault) → Result T F → Result T SessionFault
as_session session_of (Ok value) = Ok value
as_session session_of (Err fault) = Err (session_of fault)

-- it isn't the log that failed
abbrev pub IsCrewFault : TurnFault → Type 0
IsCrewFault (turn.Crew fault) = Unit {0}
IsCrewFault (turn.Log fault) = ⊥

-- it is the log that failed
abbrev pub IsLogFault : TurnFault → Type 0
IsLogFault (turn.Crew fault) = ⊥
IsLogFault (turn.Log fault) = Unit {0}

-- the client or its connection is at fault, and the next session can be served
abbrev pub IsClientFault : SessionFault → Type 0
IsClientFault (Frame fault) = Unit {0}
IsClientFault Unexpected = Unit {0}
IsClientFault Device = Unit {0}
IsClientFault TooMany = Unit {0}
IsClientFault other = ⊥

-- the log is lost only if keeping it may fail, and the keeper has failed or memory was refused
abbrev pub LosesLog : Bool → Bool → SessionFault → Type 0
LosesLog fails failed (Log fault) = IsKeepFault fails failed fault
LosesLog fails failed other = Unit {0}

-- a crew that keeps no job is never gone if no op was out
abbrev pub LosesCrew : Bool → BoardOf Op → SessionFault → Type 0
LosesCrew keeps board CrewGone = keeps ≡ false → ¬ HasNoneOut board
LosesCrew keeps board other = Unit {0}
