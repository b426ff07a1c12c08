use Rattle.std.proofs.Common.{All, ◌≤◌, arith, List, ap, refl, subst, sym, ◌∙◌}
use Rattle.std.proofs.lemmas.List.Elements.{All-replicate}
use Rattle.bank_server.specs.Clients.{ClientOf, ClientsOf, IsFreshClient, fresh_client}
use Rattle.bank_clients.specs.History.{unread_by_all, unread_limit}
use Rattle.bank_clients.proofs.Histories.{begins_ready}
use Rattle.bank_clients.proofs.UnreadByAll.{none_by_fresh}
use Rattle.bank_clients.proofs.sessions.Sessions.open.Goals as goal

pub returns-clause-ready : goal.returns-clause-ready
returns-clause-ready g c calls =
    begins_ready g.A.Arrivals.outgoing g.A.Connections.writable_places calls _
    (subst (λ (s : ClientsOf). All IsFreshClient s.all) (sym c.clients-2.view_is)
    (subst (λ (l : List ClientOf). All IsFreshClient l) (sym c.loop.invariant.all)
    (All-replicate IsFreshClient c.loop.counter (fresh_client c.args.limits) refl)))

pub invariant_of-result : goal.invariant_of-result
invariant_of-result g c known =
    let joined = ap (λ (s : ClientsOf). s.all) c.clients-2.view_is ∙ c.loop.invariant.all in
    subst (λ (l : List ClientOf). unread_by_all l ≤ unread_limit) (sym joined) (omega (arith, none_by_fresh c.args.limits c.loop.counter))
