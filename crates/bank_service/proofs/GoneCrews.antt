-- When the crew of a served bank may be gone.
use Rattle.std.proofs.Common.{◌≡◌, ℕ, Bool, true, false, sym, subst, inl, inr}
use Rattle.std.specs.Prelude.{◌⊎◌}
use Rattle.sb_ask_log.specs.Keeping.{IsKeepFault}
use Rattle.sb_log.specs.declared.log_fault.LogFault.{LogFault}
use Rattle.sb_log.specs.declared.log_fault.LogFault.TheVariants as logs
use Rattle.cown_workers.specs.declared.crew_fault.CrewFault.{CrewFault}
use Rattle.cown_workers.specs.declared.crew_fault.CrewFault.TheVariants as crew
use Rattle.bank_server.specs.SessionFaults.{LosesCrew, LosesLog, session_of_crew_fault, session_of_turn_fault}
use Rattle.bank_server.specs.declared.session.turn_fault.TurnFault.{TurnFault}
use Rattle.bank_server.specs.declared.session.turn_fault.TurnFault.TheVariants as turn
use Rattle.bank_server.specs.inner.RunFaults.{run_of_crew_fault}
use Rattle.bank_service.specs.inner.StepFaults.{IsPrintFault, IsPrintRunFault, serve_of_turn_fault}
use Rattle.cown_board.specs.Board.{BoardOf}
use Rattle.cown_workers.specs.Draining.{HasNoneOut}
use Rattle.sb_calls.specs.declared.op.Op.{Op}
use Rattle.bank_server.specs.declared.fault.RunFault.{RunFault}
use Rattle.bank_server.specs.declared.fault.RunFault.TheVariants.{Input, Strayed, CrewGone, Device, OutOfMemory}
use Rattle.bank_service.specs.ServeFaults.{IsFinishFault, IsFinishRunFault, IsServingFault, IsServingRunFault}
use Rattle.bank_service.specs.declared.serve_fault.ServeFault.{ServeFault}
use Rattle.bank_service.specs.declared.serve_fault.ServeFault.TheVariants.{Run, ReadBack, Store, StoreInUse, PortTaken, Log, AnotherOpening}

-- a server may end with whatever may end the finish of a session
run_fault_beside : (A : Type 0) (nodes : ℕ) (fault : RunFault) → IsFinishRunFault A fault → IsServingRunFault nodes A fault
run_fault_beside A nodes (Input line fault) is = is
run_fault_beside A nodes (Strayed node reason) is = absurd is
run_fault_beside A nodes CrewGone is = is
run_fault_beside A nodes Device is = is
run_fault_beside A nodes OutOfMemory is = is

pub finish_fault_beside : (A : Type 0) (nodes : ℕ) (saves fails : Bool) (fault : ServeFault) → IsFinishFault A saves fails fault
    → IsServingFault nodes A saves fails fault
finish_fault_beside A nodes saves fails (Run fault) is = run_fault_beside A nodes fault is
finish_fault_beside A nodes saves fails ReadBack is = is
finish_fault_beside A nodes saves fails Store is = is
finish_fault_beside A nodes saves fails StoreInUse is = is
finish_fault_beside A nodes saves fails (PortTaken port) is = is
finish_fault_beside A nodes saves fails (Log fault) is = is
finish_fault_beside A nodes saves fails AnotherOpening is = is

-- where nothing is saved, a server ends with no more than where something is
pub unsaved_fault : (A : Type 0) (nodes : ℕ) (saves fails : Bool) (fault : ServeFault) → IsServingFault nodes A false fails fault
    → IsServingFault nodes A saves fails fault
unsaved_fault A nodes saves fails (Run fault) is = is
unsaved_fault A nodes saves fails ReadBack is = cc
unsaved_fault A nodes saves fails Store is = is
unsaved_fault A nodes saves fails StoreInUse is = is
unsaved_fault A nodes saves fails (PortTaken port) is = is
unsaved_fault A nodes saves fails (Log fault) is = is
unsaved_fault A nodes saves fails AnotherOpening is = is

-- a server's crew that may be gone may be gone for another reason too
serving_run_fault_if : {A B : Type 0} (nodes : ℕ) (fault : RunFault) → (A → B) → IsServingRunFault nodes A fault → IsServingRunFault nodes B fault
serving_run_fault_if nodes (Input line fault) f is = is
serving_run_fault_if nodes (Strayed node reason) f is = is
serving_run_fault_if nodes CrewGone f is = f is
serving_run_fault_if nodes Device f is = is
serving_run_fault_if nodes OutOfMemory f is = is

pub serving_fault_if : {A B : Type 0} (nodes : ℕ) (saves fails : Bool) (fault : ServeFault) → (A → B) → IsServingFault nodes A saves fails fault
    → IsServingFault nodes B saves fails fault
serving_fault_if nodes saves fails (Run fault) f is = serving_run_fault_if nodes fault f is
serving_fault_if nodes saves fails ReadBack f is = is
serving_fault_if nodes saves fails Store f is = is
serving_fault_if nodes saves fails StoreInUse f is = is
serving_fault_if nodes saves fails (PortTaken port) f is = is
serving_fault_if nodes saves fails (Log fault) f is = is
serving_fault_if nodes saves fails AnotherOpening f is = is

-- ---- what ends a step

-- a fault of the crew ends a session's finish
pub crew_ends : (keeps : Bool) (board : BoardOf Op) (saves fails : Bool) (fault : CrewFault) → LosesCrew keeps board (session_of_crew_fault fault)
    → IsFinishFault (keeps ≡ false → ¬ HasNoneOut board) saves fails (Run (run_of_crew_fault fault))
crew_ends keeps board saves fails crew.CrewGone is = is
crew_ends keeps board saves fails crew.OutOfMemory is = tt

-- a log can't be kept only if keeping it may fail
pub keep_ends : (fails failed : Bool) (fault : LogFault) → IsKeepFault fails failed fault → fails ≡ true
keep_ends fails failed logs.Device is = is.0
keep_ends fails failed (logs.Damaged byte behind) is = absurd is
keep_ends fails failed logs.OutOfMemory is = is
keep_ends fails failed logs.InUse is = absurd is

-- a turn that fails ends the server
turn_ends : (keeps : Bool) (board : BoardOf Op) (saves fails failed : Bool) (fault : TurnFault) → LosesCrew keeps board (session_of_turn_fault fault)
    → LosesLog fails failed (session_of_turn_fault fault)
    → IsFinishFault (keeps ≡ false → ¬ HasNoneOut board) saves fails (serve_of_turn_fault fault)
turn_ends keeps board saves fails failed (turn.Crew fault) crew_lost log_lost = crew_ends keeps board saves fails fault crew_lost
turn_ends keeps board saves fails failed (turn.Log fault) crew_lost log_lost = keep_ends fails failed fault log_lost

print_run_ends : (A : Type 0) (fault : RunFault) → IsPrintRunFault fault → IsFinishRunFault A fault
print_run_ends A (Input line fault) is = absurd is
print_run_ends A (Strayed node reason) is = absurd is
print_run_ends A CrewGone is = absurd is
print_run_ends A Device is = tt
print_run_ends A OutOfMemory is = tt

print_ends : (A : Type 0) (saves fails : Bool) (fault : ServeFault) → IsPrintFault fault → IsFinishFault A saves fails fault
print_ends A saves fails (Run fault) is = print_run_ends A fault is
print_ends A saves fails ReadBack is = absurd is
print_ends A saves fails Store is = absurd is
print_ends A saves fails StoreInUse is = absurd is
print_ends A saves fails (PortTaken port) is = absurd is
print_ends A saves fails (Log fault) is = absurd is
print_ends A saves fails AnotherOpening is = absurd is

-- and so does printing it, if that fails
pub turn_ends_server : (nodes : ℕ) (keeps : Bool) (board : BoardOf Op) (saves fails failed : Bool) (turn : TurnFault) (fault : ServeFault)
    → LosesCrew keeps board (session_of_turn_fault turn) → LosesLog fails failed (session_of_turn_fault turn)
    → IsPrintFault fault ⊎ (fault ≡ serve_of_turn_fault turn)
    → IsServingFault nodes (keeps ≡ false → ¬ HasNoneOut board) saves fails fault
turn_ends_server nodes keeps board saves fails failed turn fault crew_lost log_lost (inl printing) =
    finish_fault_beside (keeps ≡ false → ¬ HasNoneOut board) nodes saves fails fault
    (print_ends (keeps ≡ false → ¬ HasNoneOut board) saves fails fault printing)
turn_ends_server nodes keeps board saves fails failed turn fault crew_lost log_lost (inr is) =
    finish_fault_beside (keeps ≡ false → ¬ HasNoneOut board) nodes saves fails fault
    (subst (IsFinishFault (keeps ≡ false → ¬ HasNoneOut board) saves fails) (sym is)
    (turn_ends keeps board saves fails failed turn crew_lost log_lost))
