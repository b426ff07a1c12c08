use Rattle.std.proofs.Common.{vec_capacity, ap, subst}
use Rattle.cown_queue.proofs.ChainsOfCowns.{AreTickets-linked, lists_of-linked}
use Rattle.cown_queue.specs.inner.Chains.{TicketLists, AreChains}
use Rattle.cown_queue.proofs.tickets.Tickets.grow.Goals as goal
use Rattle.cown_queue.proofs.tickets.Tickets.grow.Goals.{After-add_places}

-- more places link the same lists
linked : (c : After-add_places)
    → AreChains c.add_places.new.table.items c.self.inside.ends.items c.add_places.new.free.items c.args.self.now.lists
linked c =
    let inside = c.self.inside in
    let lists = ap (λ (v : TicketLists). v.lists) c.self.view_is in
    c.add_places.ensures.linked _ _ (subst (AreChains inside.table.items inside.ends.items inside.free.items) lists c.self.invariant.linked)

pub invariant_of-self : goal.invariant_of-self
invariant_of-self c = AreTickets-linked (linked c) (vec_capacity c.add_places.new.free) c.add_places.ensures.fits c.add_places.ensures.room

pub returns-clause-lists : goal.returns-clause-lists
returns-clause-lists c = lists_of-linked (linked c) c.add_places.ensures.fits
