use Rattle.std.proofs.Common.{◌≡◌, ℕ, ◌+◌, ◌<◌, Some, [], ◌∷◌, ◌++◌, append_assoc, arith, drop, length, length-append, rules, sym, ap, ◌∙◌}
use Rattle.std.specs.Prelude.{slice_get}
use Rattle.std.proofs.lemmas.Option.{slice_get-get_or}
use Rattle.std.proofs.lemmas.Result.{err_from_is_err_and}
use Rattle.cown_board.specs.Board.{length_of}
use Rattle.bank_server.proofs.boards.LogOps.{fault_behind}
use Rattle.bank_server.proofs.boards.NodeTurns.{drop_one, goes_on, op_next}
use Rattle.bank_server.proofs.node0.execution.submit_all.Goals as goal

pub returns-in_err-submit_op-clause-fault : goal.returns-in_err-submit_op-clause-fault
returns-in_err-submit_op-clause-fault g c =
    let p = err_from_is_err_and c.from_residual.result c.from_residual.ensures.1 in
    let kept = c.loop-op.invariant in
    rw (p.1, p.2) (fault_behind g.C.Crew.keeps c.args.replica.now.board c.loop-op.replica.board
    c.in_err-submit_op.field-0.0 (λ e. kept.none_out) c.in_err-submit_op.ensures.fault)

pub loop-op-preserved : goal.loop-op-preserved
loop-op-preserved g c =
    let kept = c.loop-op.invariant in
    let old = c.args.replica.now in
    let ops = c.args.ops.now in
    let op = c.op-item.result in
    let put = c.in_ok-submit_op.ensures.put in
    let within : c.loop-op.op-index < length ops = omega (arith, c.loop-op-test.true, c.loop-op.auto.op-index-end) in
    let here : slice_get ops c.loop-op.op-index ≡ Some op = slice_get-get_or ops c.loop-op.op-index op within ∙ ap Some (sym c.op-item.is) in
    let before = ap length kept.base_replies in
    let size : length_of c.loop-op.replica.board ≡ length_of old.board + c.loop-op.op-index = omega (arith, before, kept.count) in
    record {
      opening = search rules;
      base_replies = search rules;
      log = ap (λ l. l ++ drop (c.loop-op.op-index + 1) ops) put.log ∙ append_assoc c.loop-op.replica.board.log (op ∷ []) (drop (c.loop-op.op-index + 1) ops)
          ∙ ap (λ xs. c.loop-op.replica.board.log ++ xs) (sym (drop_one ops c.loop-op.op-index op here)) ∙ kept.log;
      cut = search rules;
      count = omega (arith, ap {B = ℕ} length put.log, length-append c.loop-op.replica.board.log (op ∷ []), kept.count);
      none_out = search rules;
      beside = search rules;
      turns = λ log has.
          goes_on log (kept.turns log has)
          (c.submit_op.ensures.turns log
          (ap (slice_get log) size ∙ op_next log ops (length_of old.board) c.loop-op.op-index op has here));
    }
