use Rattle.std.proofs.Common.{◌≡◌, false}
use Rattle.std.proofs.lemmas.Result.{err_from_is_err_and}
use Rattle.cown_workers.specs.Draining.{HasNoneOut}
use Rattle.bank_server.proofs.sessions.Keeping.{stays_bank}
use Rattle.bank_server.specs.inner.RunFaults.{run_of_crew_fault}
use Rattle.bank_service.proofs.GoneCrews.{crew_ends, finish_fault_beside}
use Rattle.bank_service.specs.declared.serve_fault.ServeFault.TheVariants.{Run}
use Rattle.bank_service.proofs.followers.compare_if_due.Goals as goal

pub returns-then-not-is_comparison_due-clause-bank : goal.returns-then-not-is_comparison_due-clause-bank
returns-then-not-is_comparison_due-clause-bank g c = stays_bank c.args.primary.now

pub returns-in_err-settle-clause-fault : goal.returns-in_err-settle-clause-fault
returns-in_err-settle-clause-fault g c =
    let p = err_from_is_err_and c.from_residual.result c.from_residual.ensures.1 in
    let board = c.args.primary.now.node.board in
    rw (p.1, p.2) (finish_fault_beside (g.C.Crew.keeps ≡ false → ¬ HasNoneOut board) c.args.followers.now.nodes false g.K.Keeper.model.fails
    (Run (run_of_crew_fault c.in_err-settle.field-0.0))
    (crew_ends g.C.Crew.keeps board false g.K.Keeper.model.fails c.in_err-settle.field-0.0 c.in_err-settle.ensures.serves.crew_lost))
