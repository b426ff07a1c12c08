use Rattle.std.proofs.Common.{subst, sym}
use Rattle.bank_clients.specs.Sessions.{AreReady, SessionsOf}
use Rattle.bank_clients.proofs.Deliveries.{sent_still}
use Rattle.bank_clients.proofs.sessions.Sessions.wait.Goals as goal

pub returns-clause-ready : goal.returns-clause-ready
returns-clause-ready g c calls ready =
    let before = subst (λ (s : SessionsOf g.row.A.Denot). AreReady g.A.Arrivals.outgoing g.A.Connections.writable_places calls s) (sym c.self.view_is) ready in
    let old = c.self.inside.connections in
    let new = c.wait.new.self in
    record {
      ready = before.ready;
      listed = before.listed;
      sent = sent_still (g.A.Arrivals.outgoing old).full (g.A.Arrivals.outgoing new).full (g.A.Connections.writable_places old)
          (g.A.Connections.writable_places new) c.self.inside.clients.all c.wait.ensures.unsent before.sent;
    }
