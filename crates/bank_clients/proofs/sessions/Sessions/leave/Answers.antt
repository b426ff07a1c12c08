use Rattle.std.proofs.Common.{arith, ◌≡◌, ◌≤◌, ◌<◌, ℕ, List, [], ◌∷◌, length, rules, subst, sym}
use Rattle.std.specs.Prelude.{◌==◌, not, slice_set}
use Rattle.std.specs.List.{filter}
use Rattle.std.proofs.lemmas.Fn.{filter_same}
use Rattle.std.proofs.lemmas.Option.{slice_get_within}
use Rattle.bank_server.specs.Clients.{ClientsOf, fresh_client}
use Rattle.bank_clients.specs.History.{GoesOn, IsOverAt, unread_by_all, unread_limit}
use Rattle.bank_clients.specs.Sessions.{AreListed, AreReady, AreSentBut, SessionsOf, outside_of}
use Rattle.bank_clients.proofs.Deliveries.{sent_without}
use Rattle.bank_clients.proofs.Histories.{leaves_goes_on}
use Rattle.bank_clients.proofs.Leaving.{listed_without}
use Rattle.bank_clients.proofs.UnreadByAll.{few_without}
use Rattle.bank_clients.proofs.sessions.Sessions.leave.Goals as goal

pub returns-clause-left : goal.returns-clause-left
returns-clause-left g c opening log =
    let outside = outside_of g.A.Arrivals.coming g.A.Arrivals.outgoing in
    let inside = c.self.inside in
    let over = c.args.over in
    subst (λ (s : SessionsOf g.row.A.Denot). GoesOn opening (outside s.connections) log s.clients.all (over.ending ∷ []) (outside c.leave.new.self) log
    c.vacate.new.self.all) c.self.view_is
    (leaves_goes_on opening (outside inside.connections) (outside c.leave.new.self) log inside.clients.all c.vacate.new.self.all over.place over.ending
    c.leave.ensures.coming c.leave.ensures.sent
    (subst (λ (s : SessionsOf g.row.A.Denot). IsOverAt s.clients.all over.place over.ending) (sym c.self.view_is) c.requires) c.vacate.ensures.served)

pub returns-clause-ready : goal.returns-clause-ready
returns-clause-ready g c calls ready =
    let inside = c.self.inside in
    let place = c.args.over.place in
    let old = inside.connections in
    let new = c.leave.new.self in
    let before = subst (λ (s : SessionsOf g.row.A.Denot). AreReady g.A.Arrivals.outgoing g.A.Connections.writable_places calls s) (sym c.self.view_is) ready in
    let over = subst (λ (s : SessionsOf g.row.A.Denot). IsOverAt s.clients.all place c.args.over.ending) (sym c.self.view_is) c.requires in
    let within : place < length inside.clients.all = slice_get_within inside.clients.all place over.0 over.1 in
    let kept : c.retain.new.self.items ≡ filter (λ n. not (n == place)) inside.leaving.items =
    filter_same _ _ _ (λ x b f' k. search rules) _ _ c.retain.ensures.filtered in
    record {
      ready = c.vacate.ensures.ready calls before.ready;
      listed = subst (λ (s : ClientsOf). AreListed c.retain.new.self.items s.all) (sym c.vacate.ensures.vacated)
          (subst (λ (l : List ℕ). AreListed l (slice_set inside.clients.all place (fresh_client inside.clients.limits))) (sym kept)
          (listed_without inside.clients.limits inside.clients.all inside.leaving.items place within before.listed));
      sent = subst (λ (s : ClientsOf). AreSentBut (g.A.Arrivals.outgoing new).full (g.A.Connections.writable_places new) s.all)
          (sym c.vacate.ensures.vacated)
          (sent_without inside.clients.limits (g.A.Arrivals.outgoing old).full (g.A.Arrivals.outgoing new).full (g.A.Connections.writable_places old)
          (g.A.Connections.writable_places new) place inside.clients.all within c.leave.ensures.others before.sent);
    }

pub invariant_of-self : goal.invariant_of-self
invariant_of-self g c known =
    let inside = c.self.inside in
    let place = c.args.over.place in
    let over = subst (λ (s : SessionsOf g.row.A.Denot). IsOverAt s.clients.all place c.args.over.ending) (sym c.self.view_is) c.requires in
    let within : place < length inside.clients.all = slice_get_within inside.clients.all place over.0 over.1 in
    subst (λ (s : ClientsOf). unread_by_all s.all ≤ unread_limit) (sym c.vacate.ensures.vacated)
    (omega (arith, c.self.invariant known, few_without inside.clients.limits inside.clients.all place within))
