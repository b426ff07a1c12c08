use Rattle.std.proofs.Common.{◌≡◌, ◌≤◌, false, length}
use Rattle.cown_workers.specs.Draining.{HasNoneOut}
use Rattle.bank_clients.specs.Sessions.{AreReady, outside_of}
use Rattle.bank_service.specs.inner.AtOnceSteps.{ServesSome}
use Rattle.bank_service.proofs.server.Server.serve_all.Given as goal

-- so many sessions are over
abbrev pub invariant-loop-before : goal.invariant-loop-before
invariant-loop-before g l = record {
  some : ServesSome g.S.CheckpointStore.model g.K.Keeper.model l.fn.self.plan.saves l.before
      (outside_of g.A.Arrivals.coming g.A.Arrivals.outgoing l.fn.self.sessions.connections)
      (outside_of g.A.Arrivals.coming g.A.Arrivals.outgoing l.self.sessions.connections)
      l.fn.self.sessions.clients.all l.self.sessions.clients.all l.fn.self.primary l.self.primary
      (g.W.Write.contents l.fn.self.writer) (g.W.Write.contents l.self.writer);
  within : l.before ≤ l.fn.self.plan.sessions;
  ready : AreReady g.A.Arrivals.outgoing g.A.Connections.writable_places (length l.self.primary.log) l.self.sessions;
  none_out : g.C.Crew.keeps ≡ false → HasNoneOut l.self.primary.node.board;
  plan : l.self.plan ≡ l.fn.self.plan;
  nodes : l.followers.nodes ≡ l.fn.followers.nodes;
}
