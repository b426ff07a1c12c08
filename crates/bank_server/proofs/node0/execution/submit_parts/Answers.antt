use Rattle.std.proofs.Common.{◌≡◌, ℕ, ◌+◌, ◌-◌, List, ◌++◌, length, length-append, map, take, drop, sym, ap, subst, ◌∙◌, arith, append_assoc, rules}
use Rattle.std.proofs.Math.Seq.{take-add}
use Rattle.std.proofs.lemmas.List.{drop-map, length-map, length-take-le, map-append, take-append-drop}
use Rattle.cown_board.specs.Board.{length_of}
use Rattle.std.proofs.lemmas.Result.{err_from_is_err_and}
use Rattle.sb_calls.specs.Op.{op_of}
use Rattle.sb_calls.specs.declared.call.Call.{Call}
use Rattle.sb_calls.specs.declared.op.Op.{Op}
use Rattle.sb_replica.specs.Replica.{RestOf}
use Rattle.bank_server.proofs.boards.LogOps.{fault_behind}
use Rattle.bank_server.proofs.boards.NodeTurns.{goes_on, part_next}
use Rattle.bank_server.specs.inner.Appends.{HasOpsAt}
use Rattle.bank_server.proofs.node0.execution.submit_parts.Goals as goal

-- one more part is looked up and submitted
next_part : (f : Call → Op) (before log new ops : List Op) (calls : List Call) (done size : ℕ) → log ≡ before ++ map f (take done calls)
    → ops ≡ map f (take (done + size - done) (drop done calls)) → new ≡ log ++ ops → new ≡ before ++ map f (take (done + size) calls)
next_part f before log new ops calls done size is looked_up put =
    put ∙ ap (λ l. l ++ ops) is ∙ append_assoc before (map f (take done calls)) ops ∙ ap (λ part. before ++ (map f (take done calls) ++ part)) looked_up
    ∙ ap (λ n. before ++ (map f (take done calls) ++ map f (take n (drop done calls)))) (omega arith)
    ∙ ap (λ l. before ++ l) (sym (map-append f (take done calls) (take size (drop done calls)))) ∙ ap (λ l. before ++ map f l) (sym (take-add done size calls))

pub loop-done-preserved : goal.loop-done-preserved
loop-done-preserved g c =
    let kept = c.loop-done.invariant in
    let put = c.in_ok-submit_all.ensures.put in
    let calls = c.args.calls.now in
    let done = c.loop-done.done in
    let part = take (done + c.min.result - done) (drop done calls) in
    let names : c.directory.result.now ≡ c.args.replica.now.names = c.directory.ensures ∙ ap (λ (r : RestOf g.row.S.Denot). r.names) kept.beside in
    let looked_up : c.deref.result.now ≡ map (op_of c.args.replica.now.names) part =
    c.deref.ensures.value ∙ c.in_ok-resolve_part.ensures.value ∙ ap (λ (d : List (List ℕ)). map (op_of d) part) names in
    record {
      opening = put.opening ∙ kept.opening;
      base_replies = put.base_replies ∙ kept.base_replies;
      cut = put.cut ∙ kept.cut;
      log = next_part (op_of c.args.replica.now.names) c.args.replica.now.board.log c.loop-done.replica.board.log c.submit_all.new.replica.board.log
          c.deref.result.now calls done c.min.result kept.log looked_up put.log;
      within = omega (arith, c.min.ensures, kept.within, c.loop-done-test.true);
      none_out = λ none. put.none_out (kept.none_out none);
      beside = c.submit_all.ensures.rest ∙ kept.beside;
      turns = λ log has.
          let f = op_of c.args.replica.now.names in
          let left = drop done calls in
          let m = done + c.min.result - done in
          let parted : drop done (map f calls) ≡ map f part ++ map f (drop m left) =
          drop-map f done calls ∙ ap (map f) (sym (take-append-drop m left)) ∙ map-append f part (drop m left) in
          let many = length-map calls f in
          let next = part_next log (map f calls) (map f part) (map f (drop m left)) (length_of c.args.replica.now.board) done has parted
          (omega (arith, many, kept.within)) in
          let replies = ap length kept.base_replies in
          let longer = ap length kept.log in
          let both = length-append c.args.replica.now.board.log (map f (take done calls)) in
          let taken = length-map (take done calls) f ∙ length-take-le done calls kept.within in
          let size : length_of c.loop-done.replica.board ≡ length_of c.args.replica.now.board + done =
          omega (arith, replies, longer, both, taken) in
          goes_on log (kept.turns log has)
          (c.in_ok-submit_all.ensures.turns log
          (subst (HasOpsAt log (length_of c.loop-done.replica.board)) (sym looked_up) (subst (λ n. HasOpsAt log n (map f part)) (sym size) next)));
      sent = search rules;
      stays = search rules;
    }

pub returns-in_err-submit_all-clause-fault : goal.returns-in_err-submit_all-clause-fault
returns-in_err-submit_all-clause-fault g c =
    let p = err_from_is_err_and c.from_residual-in_err-submit_all.result c.from_residual-in_err-submit_all.ensures.1 in
    let kept = c.loop-done.invariant in
    rw (p.1, p.2) (fault_behind g.C.Crew.keeps c.args.replica.now.board c.loop-done.replica.board
    c.in_err-submit_all.field-0.0 (λ e. kept.none_out) c.in_err-submit_all.ensures.fault)
