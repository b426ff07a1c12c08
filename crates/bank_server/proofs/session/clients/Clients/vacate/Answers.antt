use Rattle.std.proofs.Common.{rules, ◌≡◌, ◌++◌, List, ap, drop, length, subst, sym, take}
use Rattle.bank_server.specs.Clients.{ClientOf, ClientsOf, StaysServed, no_past, past_with}
use Rattle.bank_server.proofs.clients.ClientPlaces.{written_back}
use Rattle.bank_server.proofs.session.clients.Clients.vacate.Goals as goal

pub returns-clause-served : goal.returns-clause-served
returns-clause-served c =
    let items = c.self.inside.all.items in
    let new = c.vacate_place.new.all in
    let as_many : length new ≡ length items = search rules in
    let back : take c.self.inside.all.len (new ++ drop (length new) items) ≡ new =
    written_back c.self.inside.all.len new items as_many c.self.inside.all.ok.0 in
    subst (λ (l : List ClientOf). StaysServed (past_with c.args.place no_past) c.args.self.now.all l) (sym back)
    (subst (λ (l : List ClientOf). StaysServed (past_with c.args.place no_past) l new) (ap (λ (p : ClientsOf). p.all) c.self.view_is)
    (subst (λ (l : List ClientOf). StaysServed (past_with c.args.place no_past) l new) c.deref_mut.ensures.value c.vacate_place.ensures.served))
