use Rattle.std.proofs.Common.{◌≡◌, drop}
use Rattle.bank_server.specs.Clients.{StaysReady}
use Rattle.bank_clients.specs.Sessions.{AreSentBut, outside_of}
use Rattle.bank_clients.specs.inner.Rounds.{LeavesRest, StandsBy, endings_of}
use Rattle.bank_clients.proofs.delivery.deliver_new.Given as goal

-- what went out so far was taken
abbrev pub invariant-loop-index : goal.invariant-loop-index
invariant-loop-index g l = record {
  stands : StandsBy (outside_of g.A.Arrivals.coming g.A.Arrivals.outgoing l.fn.connections) l.fn.clients.all
      (outside_of g.A.Arrivals.coming g.A.Arrivals.outgoing l.connections) l.clients.all;
  sent : AreSentBut (g.A.Arrivals.outgoing l.fn.connections).full l.fn.clients.stirred l.fn.clients.all
      → AreSentBut (g.A.Arrivals.outgoing l.connections).full (drop l.index l.fn.clients.stirred) l.clients.all;
  rest : LeavesRest l.fn.clients.all l.clients.all (g.A.Arrivals.outgoing l.fn.connections).sent (g.A.Arrivals.outgoing l.connections).sent;
  ready : StaysReady l.fn.clients.all l.clients.all;
  endings : endings_of l.clients.all ≡ endings_of l.fn.clients.all;
  stirred : l.clients.stirred ≡ l.fn.clients.stirred;
}
