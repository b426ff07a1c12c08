use Rattle.std.proofs.lemmas.Result.{err_from_is_err_and}
use Rattle.bank_server.proofs.sessions.Serving.{keep_fails, serves_kept}
use Rattle.bank_server.proofs.session.single_session.serve_session.Goals as goal

pub returns-in_err-keep-clause-serves : goal.returns-in_err-keep-clause-serves
returns-in_err-keep-clause-serves g c =
    let p = err_from_is_err_and c.from_residual.result c.from_residual.ensures.1 in
    let mid = c.serve_pieces-served.new.primary in
    let step = c.serve_pieces-served.ensures.serves in
    rw (p.1, p.2) (keep_fails _ c.args.primary.now mid c.keep.new.self step.bank step.none_out c.keep.ensures.bank c.keep.ensures.unchanged
    c.in_err-keep.ensures.fault)

pub returns-clause-serves : goal.returns-clause-serves
returns-clause-serves g c =
    serves_kept c.serve_pieces-served.result c.args.primary.now c.serve_pieces-served.new.primary c.keep.new.self c.serve_pieces-served.ensures.serves
    c.keep.ensures.bank c.keep.ensures.unchanged
