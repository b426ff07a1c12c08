use Rattle.std.proofs.Common.{◌≡◌, ◌∙◌, ℕ, [], false, refl, subst}
use Rattle.cown_workers.specs.Draining.{HasNoneOut}
use Rattle.std.proofs.lemmas.Result.{err_from_is_err_and, on_ok_weaker}
use Rattle.bank_server.proofs.boards.Boards.{idle_none_out}
use Rattle.bank_server.proofs.boards.WholeReplies.{if_err}
use Rattle.bank_server.specs.Primary.{opening_rows_of}
use Rattle.bank_clients.specs.Sessions.{outside_of}
use Rattle.bank_service.specs.ServeFaults.{IsServingFault}
use Rattle.bank_service.specs.ServeOutput.{ServerContinues}
use Rattle.bank_service.specs.ServedBank.{IsBankAfter}
use Rattle.program_words.specs.declared.plan.Plan.{Plan}
use Rattle.bank_service.proofs.GoneCrews.{finish_fault_beside, serving_fault_if}
use Rattle.bank_service.proofs.ServingAtOnce.{if_all, over_behind, over_continues, rounds_at_first, rounds_then, still_begun}
use Rattle.bank_service.proofs.server.Server.serve_next.Goals as goal

pub loop-init : goal.loop-init
loop-init g c =
    let start = rounds_at_first g.S.CheckpointStore.model g.K.Keeper.model c.args.self.now.plan.saves
    (outside_of g.A.Arrivals.coming g.A.Arrivals.outgoing c.args.self.now.sessions.connections) c.args.self.now.sessions.clients.all c.args.self.now.primary in
    record {
      goes_on = start.0;
      stays = start.1;
      ready = c.requires.ready;
      none_out = λ e none. none;
      writer = refl;
      plan = refl;
      nodes = refl;
    }

pub returns-in-Some-next_over-clause-served : goal.returns-in-Some-next_over-clause-served
returns-in-Some-next_over-clause-served g c =
    let outside = outside_of g.A.Arrivals.coming g.A.Arrivals.outgoing in
    let model = g.S.CheckpointStore.model in
    let keeper = g.K.Keeper.model in
    let kept = c.loop.invariant in
    let over = c.in-Some-next_over.over in
    let old = c.args.self.now in
    let mid = c.loop.self in
    let new = c.end_session.new.self in
    let (h, served) = still_begun model keeper (outside old.sessions.connections) (outside mid.sessions.connections) old.sessions.clients.all
    mid.sessions.clients.all [] old.primary mid.primary kept.goes_on kept.stays.bank c.requires.begun in
    let continues : ServerContinues over.ending = over_continues (opening_rows_of mid.primary) h mid.primary.log mid.sessions.clients.all over.place
    over.ending served c.in-Some-next_over.ensures.over in
    if_all c.end_session.result (λ printed after left. over_behind model keeper old.plan.saves c.args.number (outside old.sessions.connections)
    (outside mid.sessions.connections) (outside new.sessions.connections) old.sessions.clients.all mid.sessions.clients.all new.sessions.clients.all
    old.primary mid.primary new.primary (g.W.Write.contents old.writer) (g.W.Write.contents mid.writer) (g.W.Write.contents new.writer) over.ending
    kept.goes_on kept.stays kept.writer continues printed
    (subst (λ (plan : Plan). IsBankAfter model keeper plan.saves 1 mid.primary new.primary) kept.plan after) left c.end_session.ensures.log)
    c.end_session.ensures.printed c.end_session.ensures.bank_after c.end_session.ensures.left

pub returns-in-Some-next_over-clause-none_out : goal.returns-in-Some-next_over-clause-none_out
returns-in-Some-next_over-clause-none_out g c =
    on_ok_weaker c.end_session.result (λ after. idle_none_out c.end_session.new.self.primary.node.board after.all.idle) c.end_session.ensures.bank_after

pub returns-in-Some-next_over-clause-fault : goal.returns-in-Some-next_over-clause-fault
returns-in-Some-next_over-clause-fault g c =
    let kept = c.loop.invariant in
    let nodes = c.args.followers.now.nodes in
    let saves = c.loop.self.plan.saves in
    if_err c.end_session.result (λ fault is. subst (λ (plan : Plan).
    IsServingFault nodes (g.C.Crew.keeps ≡ false → ¬ HasNoneOut c.args.self.now.primary.node.board) plan.saves g.K.Keeper.model.fails fault) kept.plan
    (serving_fault_if nodes saves g.K.Keeper.model.fails fault (λ gone e none. gone e (kept.none_out e none))
    (finish_fault_beside (g.C.Crew.keeps ≡ false → ¬ HasNoneOut c.loop.self.primary.node.board) nodes saves g.K.Keeper.model.fails fault is)))
    c.end_session.ensures.fault

pub loop-preserved : goal.loop-preserved
loop-preserved g c =
    let outside = outside_of g.A.Arrivals.coming g.A.Arrivals.outgoing in
    let kept = c.loop.invariant in
    let old = c.args.self.now in
    let mid = c.loop.self in
    let new = c.serve_round.new.self in
    let both = rounds_then g.S.CheckpointStore.model g.K.Keeper.model old.plan.saves
    (outside old.sessions.connections) (outside mid.sessions.connections) (outside new.sessions.connections) old.sessions.clients.all
    mid.sessions.clients.all new.sessions.clients.all old.primary mid.primary new.primary kept.goes_on kept.stays c.in_ok-serve_round.ensures.goes_on
    c.serve_round.ensures.bank in
    record {
      goes_on = both.0;
      stays = both.1;
      ready = c.in_ok-serve_round.ensures.ready;
      none_out = λ e none. c.serve_round.ensures.none_out e (kept.none_out e none);
      writer = c.in_ok-serve_round.ensures.writer ∙ kept.writer;
      plan = c.serve_round.ensures.plan ∙ kept.plan;
      nodes = c.serve_round.ensures.nodes ∙ kept.nodes;
    }

pub returns-in_err-serve_round-clause-fault : goal.returns-in_err-serve_round-clause-fault
returns-in_err-serve_round-clause-fault g c =
    let p = err_from_is_err_and c.from_residual.result c.from_residual.ensures.1 in
    let kept = c.loop.invariant in
    let fault = c.in_err-serve_round.field-0.0 in
    let MayBeGone : Type 0 = g.C.Crew.keeps ≡ false → ¬ HasNoneOut c.args.self.now.primary.node.board in
    rw (p.1, p.2) (subst (λ (plan : Plan). IsServingFault c.args.followers.now.nodes MayBeGone plan.saves g.K.Keeper.model.fails fault) kept.plan
    (subst (λ (nodes : ℕ). IsServingFault nodes MayBeGone c.loop.self.plan.saves g.K.Keeper.model.fails fault) kept.nodes
    (serving_fault_if c.loop.followers.nodes c.loop.self.plan.saves g.K.Keeper.model.fails fault (λ gone e none. gone e (kept.none_out e none))
    c.in_err-serve_round.ensures.fault)))
