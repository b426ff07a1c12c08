use Rattle.std.proofs.Common.{◌≡◌, ℕ, suc, ◌∷◌, [], List, Some, length, sym, ap, subst, ◌∙◌, arith, length-append}
use Rattle.std.specs.Prelude.{slice_get}
use Rattle.std.specs.Option.{option_copied}
use Rattle.std.proofs.lemmas.Result.{err_from_is_err_and}
use Rattle.sb_calls.specs.Op.{op_of}
use Rattle.cown_board.specs.Board.{length_of}
use Rattle.cown_workers.specs.Draining.{HasNoneOut}
use Rattle.sb_replica.specs.Replica.{ReplicaOf, RestOf, rest_of}
use Rattle.sb_sequencer.specs.Numbering.{call_of_number}
use Rattle.sb_sequencer.specs.Sequencer.{SequencerOf}
use Rattle.bank_server.specs.Faults.{IsExecutionFault}
use Rattle.bank_server.specs.NodeTurns.{TurnsLead}
use Rattle.bank_server.specs.Primary.{log_ops}
use Rattle.bank_server.specs.inner.Appends.{AppendsOps}
use Rattle.bank_server.proofs.sessions.Keeping.{kept_bank}
use Rattle.bank_server.proofs.boards.NodeTurns.{goes_on, next_call, no_rest}
use Rattle.bank_server.proofs.boards.LogOps.{fault_behind, kept_by_one, loses_crew, loses_no_log, length-ops, op_here}
use Rattle.bank_server.proofs.node0.primary.Primary.offer_rest.Goals as goal

pub returns-in_err-submit_op-clause-serves : goal.returns-in_err-submit_op-clause-serves
returns-in_err-submit_op-clause-serves g c =
    let p = err_from_is_err_and c.from_residual.result c.from_residual.ensures.1 in
    let loop = c.loop-number in
    let kept = loop.invariant in
    let keeps = g.C.Crew.keeps in
    let fault = c.in_err-submit_op.field-0.0 in
    let old = c.args.self.now.node.board in
    let at : ReplicaOf g.row.S.Denot = loop.self-inside.node.value in
    let new = c.submit_op.new.replica in
    let log = loop.self-inside.log.value.log in
    let call = c.unwrap-call.result.now in
    let op = c.resolve-op.result in
    let there : c.deref_mut.result.now ≡ at = c.deref_mut.ensures.value in
    let names : c.directory.result.now ≡ at.names =
    c.directory.ensures ∙ ap (λ (r : ReplicaOf g.row.S.Denot). r.names) c.deref-in-loop-number-2.ensures in
    let looked_up : op_of at.names call ≡ op = ap (λ (ns : List (List ℕ)). op_of ns call) (sym names) ∙ sym c.resolve-op.ensures.value in
    let found : call_of_number log loop.number ≡ Some call =
    ap (λ (s : SequencerOf). call_of_number s.log loop.number) (sym c.deref-in-loop-number.ensures)
    ∙ sym c.call.ensures ∙ ap option_copied c.unwrap-call.ensures in
    let whole = log_ops c.args.self.now.node.names c.args.self.now.log in
    let same : log_ops at.names log ≡ whole =
    ap (λ (r : RestOf g.row.S.Denot). log_ops r.names log) kept.beside ∙ ap (λ l. log_ops c.args.self.now.node.names l) kept.log in
    let next : slice_get whole (length_of at.board) ≡ Some op =
    ap (λ l. slice_get l (length_of at.board)) (sym same)
    ∙ next_call at.names log at.board call loop.number kept.kept.valid.behind.base_replies kept.count found ∙ ap Some looked_up in
    let turned = subst (λ (r : ReplicaOf g.row.S.Denot). slice_get whole (length_of r.board) ≡ Some op → TurnsLead whole r new) there
    (c.submit_op.ensures.turns whole) next in
    record {
      bank = kept_bank c.args.self.now
          (record { log = log; counts = loop.self-inside.counts; node = new; keeper = loop.self-inside.keeper })
          (c.submit_op.ensures.rest ∙ ap (λ (r : ReplicaOf g.row.S.Denot). rest_of r) there ∙ kept.beside)
          (c.in_err-submit_op.ensures.err.opening ∙ ap (λ (r : ReplicaOf g.row.S.Denot). r.board.opening) there ∙ kept.opening)
          kept.keeper kept.log (goes_on whole kept.turns turned);
      none_out = λ e none. c.submit_op.ensures.none_out e
          (subst (λ (r : ReplicaOf g.row.S.Denot). HasNoneOut r.board) (sym there) (kept.none_out e none));
      crew_lost = rw (p.1, p.2) (loses_crew keeps old fault (fault_behind keeps old at.board fault kept.none_out
          (subst (λ (r : ReplicaOf g.row.S.Denot). IsExecutionFault keeps r.board fault) there c.in_err-submit_op.ensures.fault)));
      log_lost = rw (p.1, p.2) (loses_no_log g.K.Keeper.model.fails (g.K.Keeper.model.has_failed loop.self-inside.keeper) fault);
    }

pub loop-number-preserved : goal.loop-number-preserved
loop-number-preserved g c =
    let loop = c.loop-number in
    let kept = loop.invariant in
    let at : ReplicaOf g.row.S.Denot = loop.self-inside.node.value in
    let new = c.submit_op.new.replica in
    let log = loop.self-inside.log.value.log in
    let call = c.unwrap-call.result.now in
    let op = c.resolve-op.result in
    let there : c.deref_mut.result.now ≡ at = c.deref_mut.ensures.value in
    let rest : rest_of new ≡ rest_of at = c.submit_op.ensures.rest ∙ ap (λ (r : ReplicaOf g.row.S.Denot). rest_of r) there in
    let put : AppendsOps (op ∷ []) at.board new.board =
    subst (λ (r : ReplicaOf g.row.S.Denot). AppendsOps (op ∷ []) r.board new.board) there c.in_ok-submit_op.ensures.put in
    let names : c.directory.result.now ≡ at.names =
    c.directory.ensures ∙ ap (λ (r : ReplicaOf g.row.S.Denot). r.names) c.deref-in-loop-number-2.ensures in
    let looked_up : op_of at.names call ≡ op = ap (λ (ns : List (List ℕ)). op_of ns call) (sym names) ∙ sym c.resolve-op.ensures.value in
    let found : call_of_number log loop.number ≡ Some call =
    ap (λ (s : SequencerOf). call_of_number s.log loop.number) (sym c.deref-in-loop-number.ensures)
    ∙ sym c.call.ensures ∙ ap option_copied c.unwrap-call.ensures in
    let after : suc (length at.board.log) ≡ loop.number = omega (arith, kept.count) in
    let here : slice_get (log_ops at.names log) (length at.board.log) ≡ Some op =
    op_here (op_of at.names) log (length at.board.log) call (ap (call_of_number log) after ∙ found) ∙ ap Some looked_up in
    let whole = log_ops c.args.self.now.node.names c.args.self.now.log in
    let same : log_ops at.names log ≡ whole =
    ap (λ (r : RestOf g.row.S.Denot). log_ops r.names log) kept.beside ∙ ap (λ l. log_ops c.args.self.now.node.names l) kept.log in
    let next : slice_get whole (length_of at.board) ≡ Some op =
    ap (λ l. slice_get l (length_of at.board)) (sym same)
    ∙ next_call at.names log at.board call loop.number kept.kept.valid.behind.base_replies kept.count found ∙ ap Some looked_up in
    let turned = subst (λ (r : ReplicaOf g.row.S.Denot). slice_get whole (length_of r.board) ≡ Some op → TurnsLead whole r new) there
    (c.submit_op.ensures.turns whole) next in
    record {
      kept = kept_by_one g.K.Keeper.model log loop.self-inside.counts loop.self-inside.keeper at new kept.kept rest op put here;
      log = kept.log;
      counts = kept.counts;
      keeper = kept.keeper;
      end = kept.end;
      count = omega (arith, ap {B = ℕ} length put.log, length-append at.board.log (op ∷ []), kept.count);
      opening = put.opening ∙ kept.opening;
      beside = rest ∙ kept.beside;
      turns = goes_on whole kept.turns turned;
      none_out = λ e none. put.none_out (kept.none_out e none);
    }

pub returns-clause-serves : goal.returns-clause-serves
returns-clause-serves g c =
    let loop = c.loop-number in
    let kept = loop.invariant in
    record {
      bank = kept_bank c.args.self.now
          (record {
            log = loop.self-inside.log.value.log;
            counts = loop.self-inside.counts;
            node = loop.self-inside.node.value;
            keeper = loop.self-inside.keeper;
          })
          kept.beside kept.opening kept.keeper kept.log kept.turns;
      none_out = kept.none_out;
      crew_lost = tt;
      log_lost = tt;
    }

pub returns-in_err-submit_op-clause-one_each : goal.returns-in_err-submit_op-clause-one_each
returns-in_err-submit_op-clause-one_each g c = c.loop-number.invariant.kept.valid.log

pub returns-clause-one_each : goal.returns-clause-one_each
returns-clause-one_each g c = c.loop-number.invariant.kept.valid.log

pub returns-clause-offered : goal.returns-clause-offered
returns-clause-offered g c =
    let loop = c.loop-number in
    let kept = loop.invariant in
    let at : ReplicaOf g.row.S.Denot = loop.self-inside.node.value in
    let log = loop.self-inside.log.value.log in
    let begins = kept.kept.valid.behind.begins in
    let size = length-ops (op_of at.names) log in
    no_rest (log_ops at.names log) at.board.log begins.0 begins.1 (omega (arith, size, kept.count, kept.end, c.loop-number-test.false))
