use Rattle.std.proofs.Common.{List, ap, length, subst}
use Rattle.std.specs.Prelude.{OnOk}
use Rattle.bank_server.specs.Clients.{ClientOf, ClientsOf, StaysReady, StaysServed, no_past, past_with}
use Rattle.bank_server.proofs.session.clients.Clients.join.Goals as goal

pub returns-clause-ready : goal.returns-clause-ready
returns-clause-ready c =
    subst (λ (l : List ClientOf). OnOk c.add_client.result (StaysReady l c.add_client.new.all.items))
    (ap (λ (p : ClientsOf). p.all) c.self.view_is) c.add_client.ensures.ready

pub returns-clause-served : goal.returns-clause-served
returns-clause-served c =
    subst (λ (l : List ClientOf). OnOk c.add_client.result (StaysServed (past_with (length l) no_past) l c.add_client.new.all.items))
    (ap (λ (p : ClientsOf). p.all) c.self.view_is) c.add_client.ensures.served
