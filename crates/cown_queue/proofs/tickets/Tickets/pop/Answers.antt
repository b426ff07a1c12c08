use Rattle.std.proofs.Common.{◌<◌, [], ◌∷◌, ◌++◌, length, set, drop, vec_capacity, ap, arith}
use Rattle.cown_queue.proofs.TicketSteps.{Becomes, Becomes-same, first_below, free_below, popped, ticket_read}
use Rattle.cown_queue.specs.inner.Chains.{TicketLists}
use Rattle.cown_queue.specs.Queues.{list_of}
use Rattle.cown_queue.specs.declared.tickets.Ends.{Ends}
use Rattle.cown_queue.specs.declared.tickets.Ticket.{Ticket}
use Rattle.cown_queue.proofs.tickets.Tickets.pop.Goals as goal
use Rattle.cown_queue.proofs.tickets.Tickets.pop.Goals.{then-next, else-next, After-index-ends, After-push_reserved}

first : (c : After-index-ends) → c.index-ends.result.now.first < length c.self.inside.table.items
first c =
    first_below c.self.inside.table.items c.self.inside.ends.items c.self.inside.free.items (vec_capacity c.self.inside.free) c.self.invariant
    c.args.self.now.lists (ap (λ (v : TicketLists). v.lists) c.self.view_is) c.args.cown c.id.result c.index-ends.result.now c.id.ensures
    c.index-ends.ensures c.requires

pub index-requires : goal.index-requires
index-requires c = let below = first (goal.at.index-requires c).After-index-ends in omega (arith, below, c.self.inside.table.ok)

pub push_reserved-requires : goal.push_reserved-requires
push_reserved-requires c =
    let fewer =
    free_below c.self.inside.table.items c.self.inside.ends.items c.self.inside.free.items (vec_capacity c.self.inside.free) c.self.invariant
    c.args.self.now.lists (ap (λ (v : TicketLists). v.lists) c.self.view_is) c.args.cown c.id.result c.index-ends.result.now c.id.ensures
    c.index-ends.ensures c.requires in
    omega (arith, fewer, c.self.inside.free.ok)

-- the tickets after a number is removed
pops : (c : After-push_reserved)
    → Becomes c.self.inside.table.items
    (set c.self.inside.ends.items c.id-2.result (record { first = c.index.result.now.next; last = c.if-next.last }))
    c.push_reserved.new.self.items (vec_capacity c.push_reserved.new.self)
    (set c.args.self.now.lists c.args.cown (drop 1 (list_of c.args.self.now.lists c.args.cown)))
pops c =
    let inside = c.self.inside in
    let ends = c.index-ends.result.now in
    let here = first (goal.at.invariant_of-self c).After-index-ends in
    let ticket = ticket_read inside.table.items ends.first c.index.result.now here c.index.ensures in
    let now : Ends = record { first = c.index.result.now.next; last = c.if-next.last } in
    Becomes-same inside.table.items (set inside.ends.items c.args.cown now) _ (inside.free.items ++ ends.first ∷ []) _ (vec_capacity inside.free) _ _
    (ap (λ cown. set inside.ends.items cown now) c.id-2.ensures) c.push_reserved.ensures.items c.push_reserved.ensures.capacity
    (popped inside.table.items inside.ends.items inside.free.items (vec_capacity inside.free) c.self.invariant c.args.self.now.lists
    (ap (λ (v : TicketLists). v.lists) c.self.view_is) c.args.cown c.id.result ends c.id.ensures c.index-ends.ensures c.index.result.now.next
    c.if-next.last c.requires (ap (λ (t : Ticket). t.next) ticket)
    (λ none. elim c.if-next.branch [ then-next w ↦ w.last-is | else-next w ↦ absurd (w.if-next.false none) ])
    (λ some. elim c.if-next.branch [ then-next w ↦ absurd (some w.if-next.true) | else-next w ↦ w.last-is ]))

pub invariant_of-self : goal.invariant_of-self
invariant_of-self c = (pops c).0

pub returns-clause-lists : goal.returns-clause-lists
returns-clause-lists c = (pops c).1
