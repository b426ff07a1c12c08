use Rattle.std.proofs.Common.{◌≡◌, [], false, length}
use Rattle.cown_workers.specs.Draining.{HasNoneOut}
use Rattle.bank_server.specs.Primary.{opening_rows_of}
use Rattle.bank_clients.specs.History.{GoesOn}
use Rattle.bank_clients.specs.Sessions.{AreReady, outside_of}
use Rattle.bank_service.specs.inner.AtOnceSteps.{StaysBank}
use Rattle.bank_service.proofs.server.Server.serve_next.Given as goal

-- no session is over so far
abbrev pub invariant-loop : goal.invariant-loop
invariant-loop g l = record {
  goes_on : GoesOn (opening_rows_of l.fn.self.primary) (outside_of g.A.Arrivals.coming g.A.Arrivals.outgoing l.fn.self.sessions.connections)
      l.fn.self.primary.log l.fn.self.sessions.clients.all [] (outside_of g.A.Arrivals.coming g.A.Arrivals.outgoing l.self.sessions.connections)
      l.self.primary.log l.self.sessions.clients.all;
  stays : StaysBank g.S.CheckpointStore.model g.K.Keeper.model l.fn.self.plan.saves l.fn.self.primary l.self.primary;
  ready : AreReady g.A.Arrivals.outgoing g.A.Connections.writable_places (length l.self.primary.log) l.self.sessions;
  none_out : g.C.Crew.keeps ≡ false → HasNoneOut l.fn.self.primary.node.board → HasNoneOut l.self.primary.node.board;
  writer : g.W.Write.contents l.self.writer ≡ g.W.Write.contents l.fn.self.writer;
  plan : l.self.plan ≡ l.fn.self.plan;
  nodes : l.followers.nodes ≡ l.fn.followers.nodes;
}
