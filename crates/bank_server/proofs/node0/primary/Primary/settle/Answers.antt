use Rattle.std.proofs.Common.{◌≡◌, ap, subst, sym, ◌∙◌}
use Rattle.cown_workers.specs.Draining.{HasNoneOut, PreservesLog}
use Rattle.sb_replica.specs.Replica.{ReplicaOf, rest_of}
use Rattle.bank_server.specs.Faults.{IsExecutionFault}
use Rattle.bank_server.specs.Primary.{PrimaryOf}
use Rattle.bank_server.proofs.sessions.FrameSteps.{executes_on}
use Rattle.bank_server.proofs.boards.LogOps.{fault_behind, kept_by_same, result_loses_crew, result_loses_no_log}
use Rattle.bank_server.proofs.boards.WholeReplies.{if_err}
use Rattle.bank_server.proofs.node0.primary.Primary.settle.Goals as goal

pub returns-in_err-offer_rest-clause-one_each : goal.returns-in_err-offer_rest-clause-one_each
returns-in_err-offer_rest-clause-one_each g c = c.offer_rest.ensures.one_each

pub invariant_of-self : goal.invariant_of-self
invariant_of-self g c =
    let at : ReplicaOf g.row.S.Denot = c.self.inside.node.value in
    let new = c.execute_unfinished.new.replica in
    let there : c.deref_mut.result.now ≡ at = c.deref_mut.ensures.value in
    kept_by_same g.K.Keeper.model c.self.inside.log.value.log c.self.inside.counts c.self.inside.keeper at new c.self.invariant
    (c.execute_unfinished.ensures.rest ∙ ap (λ (r : ReplicaOf g.row.S.Denot). rest_of r) there)
    (subst (λ (r : ReplicaOf g.row.S.Denot). PreservesLog r.board new.board) there c.execute_unfinished.ensures.log)

pub returns-clause-serves : goal.returns-clause-serves
returns-clause-serves g c =
    let keeps = g.C.Crew.keeps in
    let old = c.args.self.now.node.board in
    let mid = c.offer_rest.new.self.node in
    let offered = c.offer_rest.ensures.serves in
    let executed = c.execute_unfinished.result in
    let there : c.deref_mut.result.now ≡ mid =
    c.deref_mut.ensures.value ∙ ap (λ (p : PrimaryOf g.row.S.Denot g.row.K.Denot). p.node) c.self.view_is in
    record {
      bank = executes_on c.args.self.now c.offer_rest.new.self
          (record { log = c.self.inside.log.value.log; counts = c.self.inside.counts; node = c.execute_unfinished.new.replica; keeper = c.self.inside.keeper })
          c.deref_mut.result.now offered.bank there c.execute_unfinished.ensures.rest c.execute_unfinished.ensures.log
          c.execute_unfinished.ensures.turns
          (ap (λ (p : PrimaryOf g.row.S.Denot g.row.K.Denot). p.keeper) c.self.view_is)
          (ap (λ (p : PrimaryOf g.row.S.Denot g.row.K.Denot). p.log) c.self.view_is);
      none_out = λ e none. c.execute_unfinished.ensures.none_out e
          (subst (λ (r : ReplicaOf g.row.S.Denot). HasNoneOut r.board) (sym there) (offered.none_out e none));
      crew_lost = result_loses_crew keeps old executed (if_err executed (λ fault is. fault_behind keeps old mid.board fault offered.none_out
          (subst (λ (r : ReplicaOf g.row.S.Denot). IsExecutionFault keeps r.board fault) there is)) c.execute_unfinished.ensures.fault);
      log_lost = result_loses_no_log g.K.Keeper.model.fails _ executed;
    }
