use Rattle.std.proofs.Common.{◌∙◌, ◌+◌, arith, refl, subst}
use Rattle.bank_clients.specs.Sessions.{outside_of}
use Rattle.program_words.specs.declared.plan.Plan.{Plan}
use Rattle.bank_service.specs.inner.AtOnceSteps.{ServesOver}
use Rattle.bank_service.proofs.ServingAtOnce.{some_at_first, some_then_over}
use Rattle.bank_service.proofs.server.Server.serve_all.Goals as goal

pub loop-before-init : goal.loop-before-init
loop-before-init g c = record {
  some = some_at_first g.S.CheckpointStore.model g.K.Keeper.model c.args.self.now.plan.saves
      (outside_of g.A.Arrivals.coming g.A.Arrivals.outgoing c.args.self.now.sessions.connections) c.args.self.now.sessions.clients.all c.args.self.now.primary
      (g.W.Write.contents c.args.self.now.writer);
  within = omega arith;
  ready = c.requires.ready;
  none_out = c.requires.none_out;
  plan = refl;
  nodes = refl;
}

pub loop-before-preserved : goal.loop-before-preserved
loop-before-preserved g c =
    let outside = outside_of g.A.Arrivals.coming g.A.Arrivals.outgoing in
    let model = g.S.CheckpointStore.model in
    let keeper = g.K.Keeper.model in
    let kept = c.loop-before.invariant in
    let next = c.in_ok-serve_next.ensures in
    let old = c.args.self.now in
    let mid = c.loop-before.self in
    let new = c.serve_next.new.self in
    record {
      some = some_then_over model keeper old.plan.saves c.loop-before.before (outside old.sessions.connections)
          (outside mid.sessions.connections) (outside new.sessions.connections) old.sessions.clients.all mid.sessions.clients.all new.sessions.clients.all
          old.primary mid.primary new.primary (g.W.Write.contents old.writer) (g.W.Write.contents mid.writer) (g.W.Write.contents new.writer) kept.some
          (subst (λ (plan : Plan). ServesOver model keeper plan.saves (c.loop-before.before + 1) (outside mid.sessions.connections)
          (outside new.sessions.connections) mid.sessions.clients.all new.sessions.clients.all mid.primary new.primary
          (g.W.Write.contents mid.writer) (g.W.Write.contents new.writer)) kept.plan next.served);
      within = omega (arith, c.loop-before-test.true);
      ready = next.ready;
      none_out = λ e. next.none_out;
      plan = c.serve_next.ensures.plan ∙ kept.plan;
      nodes = c.serve_next.ensures.nodes ∙ kept.nodes;
    }
