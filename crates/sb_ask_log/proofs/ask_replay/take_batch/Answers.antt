use Rattle.std.proofs.Common.{length, ap, sym, ◌∙◌, arith, eqb-true, length-drop}
use Rattle.std.proofs.lemmas.List.{take_rest}
use Rattle.std.proofs.lemmas.Result.{err_from_is_err_and}
use Rattle.sb_ask_log.specs.Asks.{ask_frame}
use Rattle.sb_ask_log.proofs.Fields.{field_filled, takes_some}
use Rattle.sb_ask_log.proofs.Taking.{ask_refused, filled_by_test, no_ask_follows, one_taken, refused_so}
use Rattle.sb_ask_log.proofs.ask_replay.take_batch.Goals as goal

pub returns-then-is_empty : goal.returns-then-is_empty
returns-then-is_empty c batch some valid e is =
    let none = eqb-true (length c.args.body.now) 0 (sym c.is_empty.ensures ∙ c.if-is_empty.true) in
    omega (arith, none, ap length e, field_filled batch some)

pub returns-in_default : goal.returns-in_default
returns-in_default c =
    no_ask_follows c.args.body.now c.loop-rest.rest.now c.args.log.now.log c.loop-rest.log.log c.loop-rest.invariant
    (filled_by_test c.loop-rest.rest.now c.is_empty-in-loop-rest.result c.is_empty-in-loop-rest.ensures c.loop-rest-test.true)
    c.in_default.ensures

pub returns-in_err-number : goal.returns-in_err-number
returns-in_err-number c =
    let a = c.in-Some in
    let p = err_from_is_err_and c.from_residual.result c.from_residual.ensures.1 in
    rw (p.1, p.2)
    (refused_so _ _ c.in_err-number.field-0.0
    (ask_refused c.args.body.now c.loop-rest.rest.now c.args.log.now.log c.loop-rest.log.log c.loop-rest.invariant (a.key, a.call) a.size
    a.ensures.1 a.ensures.2)
    c.in_err-number.ensures)

pub loop-rest-smaller : goal.loop-rest-smaller
loop-rest-smaller c =
    let a = c.in-Some in
    rw (take_rest c.loop-rest.rest.now a.size)
    (omega (arith, takes_some c.loop-rest.rest.now a.size (ask_frame (a.key, a.call)) a.ensures.2, a.ensures.0, length-drop a.size c.loop-rest.rest.now))

pub loop-rest-preserved : goal.loop-rest-preserved
loop-rest-preserved c =
    let a = c.in-Some in
    rw (take_rest c.loop-rest.rest.now a.size)
    (one_taken c.args.body.now c.loop-rest.rest.now c.args.log.now.log c.loop-rest.log.log c.number.new.log.log (a.key, a.call) a.size
    c.loop-rest.invariant a.ensures.1 a.ensures.2 c.in_ok-number.ensures.0 c.in_ok-number.ensures.1)
