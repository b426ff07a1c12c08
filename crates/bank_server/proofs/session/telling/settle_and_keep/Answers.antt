use Rattle.std.proofs.lemmas.Result.{err_from_is_err_and}
use Rattle.bank_server.proofs.sessions.Serving.{keep_fails, serves_kept}
use Rattle.bank_server.proofs.session.telling.settle_and_keep.Goals as goal

pub returns-in_err-settle-clause-serves : goal.returns-in_err-settle-clause-serves
returns-in_err-settle-clause-serves g c =
    let p = err_from_is_err_and c.from_residual.result c.from_residual.ensures.1 in
    rw (p.1, p.2) c.in_err-settle.ensures.serves

pub returns-in_err-keep-clause-serves : goal.returns-in_err-keep-clause-serves
returns-in_err-keep-clause-serves g c =
    let p = err_from_is_err_and c.from_residual-in_err-keep.result c.from_residual-in_err-keep.ensures.1 in
    let mid = c.settle.new.self in
    let step = c.settle.ensures.serves in
    rw (p.1, p.2) (keep_fails _ c.args.primary.now mid c.keep.new.self step.bank step.none_out c.keep.ensures.bank c.keep.ensures.unchanged
    c.in_err-keep.ensures.fault)

pub returns-clause-serves : goal.returns-clause-serves
returns-clause-serves g c =
    serves_kept _ c.args.primary.now c.settle.new.self c.keep.new.self c.in_ok-settle.ensures.serves c.keep.ensures.bank c.keep.ensures.unchanged
