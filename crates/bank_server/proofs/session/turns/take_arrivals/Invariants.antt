use Rattle.std.proofs.Common.{◌≡◌, ◌<◌, All, length}
use Rattle.bank_server.specs.Clients.{AreCalmBut, AreUntold, IsSound}
use Rattle.bank_server.specs.Primary.{opening_rows_of}
use Rattle.bank_server.specs.inner.NumberedAsks.{NumbersAsks}
use Rattle.bank_server.specs.inner.ClientTurns.{TakesSome}
use Rattle.bank_server.proofs.session.turns.take_arrivals.Given as goal

-- what came so far was taken
abbrev pub invariant-loop : goal.invariant-loop
invariant-loop g l = record {
  sound : All (λ client. IsSound (length l.primary.log) client) l.clients;
  taken : TakesSome (opening_rows_of l.fn.primary) (g.A.Arrivals.coming l.fn.arrivals) (g.A.Arrivals.coming l.arrivals)
      (g.A.Arrivals.here l.fn.arrivals) (g.A.Arrivals.here l.arrivals) l.counter l.fn.primary.log l.fn.clients l.primary.log l.clients;
  there : All (λ k. k < length l.clients) l.stirred.items;
  calm : AreCalmBut l.stirred.items l.fn.clients l.clients;
  untold : AreUntold l.fn.clients l.clients;
  outgoing : g.A.Arrivals.outgoing l.arrivals ≡ g.A.Arrivals.outgoing l.fn.arrivals;
  as_many : length l.clients ≡ length l.fn.clients;
  numbered : NumbersAsks g.K.Keeper.model l.fn.primary l.primary;
}
