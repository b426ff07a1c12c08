use Rattle.std.proofs.lemmas.Result.{err_from_is_err_and}
use Rattle.bank_service.proofs.GoneCrews.{crew_ends, keep_ends}
use Rattle.bank_service.proofs.session_end.finish_session.Goals as goal

pub returns-in_err-settle-clause-fault : goal.returns-in_err-settle-clause-fault
returns-in_err-settle-clause-fault g c =
    let p = err_from_is_err_and c.from_residual.result c.from_residual.ensures.1 in
    rw (p.1, p.2) (crew_ends g.C.Crew.keeps c.args.primary.now.node.board c.args.saves g.K.Keeper.model.fails c.in_err-settle.field-0.0
    c.in_err-settle.ensures.serves.crew_lost)

pub returns-in_err-keep-clause-fault : goal.returns-in_err-keep-clause-fault
returns-in_err-keep-clause-fault g c =
    let p = err_from_is_err_and c.from_residual-in_err-keep.result c.from_residual-in_err-keep.ensures.1 in
    rw (p.1, p.2) (keep_ends g.K.Keeper.model.fails _ c.in_err-keep.field-0.0 c.in_err-keep.ensures.fault)
