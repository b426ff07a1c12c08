use Rattle.std.proofs.Common.{rules, ◌≡◌, ◌++◌, List, ap, drop, length, subst, sym, take}
use Rattle.std.specs.Prelude.{IfSome, slice_get}
use Rattle.bank_server.specs.Clients.{ClientOf, ClientsOf, StaysServed, sends}
use Rattle.bank_server.proofs.clients.ClientPlaces.{written_back}
use Rattle.bank_server.proofs.session.clients.Clients.sent.Goals as goal

pub returns-clause-served : goal.returns-clause-served
returns-clause-served c =
    let items = c.self.inside.all.items in
    let new = c.take_sent.new.all in
    let as_many : length new ≡ length items = search rules in
    let back : take c.self.inside.all.len (new ++ drop (length new) items) ≡ new =
    written_back c.self.inside.all.len new items as_many c.self.inside.all.ok.0 in
    subst (λ (l : List ClientOf). IfSome (slice_get c.args.self.now.all c.args.place) (λ client. StaysServed
    (sends c.args.place (take c.args.count client.outcomes)) c.args.self.now.all l)) (sym back)
    (subst (λ (l : List ClientOf). IfSome (slice_get l c.args.place) (λ client. StaysServed (sends c.args.place (take c.args.count client.outcomes)) l new))
    (ap (λ (p : ClientsOf). p.all) c.self.view_is)
    (subst (λ (l : List ClientOf). IfSome (slice_get l c.args.place) (λ client. StaysServed (sends c.args.place (take c.args.count client.outcomes)) l new))
    c.deref_mut.ensures.value c.take_sent.ensures.served))
