use Rattle.std.proofs.Common.{◌≡◌, ◌<◌, List, [], ◌∷◌, ◌++◌, length, set, vec_capacity, refl, sym, ap, ◌∙◌, arith}
use Rattle.std.proofs.lemmas.Grind.{get_or-set_at}
use Rattle.std.proofs.lemmas.List.{length-set, set-set}
use Rattle.cown_queue.proofs.ChainsOfCowns.{free_within}
use Rattle.cown_queue.proofs.TicketSteps.{Becomes, Becomes-same, there, first_again, last_below, pushed_first, pushed_behind, ticket_read}
use Rattle.cown_queue.specs.inner.Chains.{TicketLists}
use Rattle.cown_queue.specs.Queues.{list_of}
use Rattle.cown_queue.specs.declared.tickets.Ends.{Ends}
use Rattle.cown_queue.specs.declared.tickets.TheConstants.{NONE}
use Rattle.cown_queue.specs.declared.tickets.Ticket.{Ticket}
use Rattle.cown_queue.proofs.tickets.Tickets.push.Goals as goal
use Rattle.cown_queue.proofs.tickets.Tickets.push.Goals.{After-index_mut-2, then-ends, else-ends}

pub index_mut-requires : goal.index_mut-requires
index_mut-requires c =
    let below = free_within c.self.invariant.linked c.take_last-place.new.self.items c.take_last-place.result c.take_last-place.ensures.items in
    omega (arith, below, c.self.inside.table.ok)

pub index_mut-requires-else-ends : goal.index_mut-requires-else-ends
index_mut-requires-else-ends c =
    let inside = c.self.inside in
    let below = last_below inside.table.items inside.ends.items inside.free.items (vec_capacity inside.free) c.self.invariant c.args.self.now.lists
    (ap (λ (v : TicketLists). v.lists) c.self.view_is) c.args.cown c.id.result c.index-ends.result.now c.id.ensures c.index-ends.ensures c.requires.cown
    c.if-ends.false in
    omega (arith, below, inside.table.ok)

-- the tickets after a number is appended, if it is the first at its cown and if others are before it
pushes : (c : After-index_mut-2)
    → Becomes c.if-ends.self-inside.table.items
    (set c.if-ends.self-inside.ends.items c.id-2.result (record { first = c.index_mut-2.result.now.first; last = c.take_last-place.result }))
    c.if-ends.self-inside.free.items (vec_capacity c.if-ends.self-inside.free)
    (set c.args.self.now.lists c.args.cown (list_of c.args.self.now.lists c.args.cown ++ c.args.number ∷ []))
pushes c =
    let inside = c.self.inside in
    let table = inside.table.items in
    let ends = inside.ends.items in
    let e = c.index-ends.result.now in
    let place = c.take_last-place.result in
    let cown = c.args.cown in
    let lists = ap (λ (v : TicketLists). v.lists) c.self.view_is in
    let again = c.index_mut-2.result.now in
    elim c.if-ends.branch [
      | then-ends w ↦
          let now : Ends = record { first = place; last = place } in
          let half : Ends = record { first = place; last = w.index_mut-then-ends.result.now.last } in
          let within : w.id-then-ends.result < length ends = rw w.id-then-ends.ensures
          (there table ends inside.free.items (vec_capacity inside.free) c.self.invariant c.args.self.now.lists lists cown c.id.result e c.id.ensures
          c.index-ends.ensures c.requires.cown) in
          let first : again.first ≡ place = ap (λ (e : Ends). e.first) ((rw w.self-inside-is at c.index_mut-2.ensures.value)
          ∙ get_or-set_at ends w.id-then-ends.result c.id-2.result half again (c.id-2.ensures ∙ sym w.id-then-ends.ensures) within) in
          rw w.self-inside-is
          (Becomes-same _ (set ends cown now) _ c.take_last-place.new.self.items _ (vec_capacity inside.free) _ _
          (rw (c.id-2.ensures, w.id-then-ends.ensures, first) (set-set ends cown half now)) refl c.take_last-place.ensures.capacity
          (pushed_first table ends inside.free.items (vec_capacity inside.free) c.self.invariant c.args.self.now.lists lists cown c.id.result e c.id.ensures
          c.index-ends.ensures c.take_last-place.new.self.items c.args.number place c.requires.cown c.take_last-place.ensures.items w.if-ends.true))
      | else-ends w ↦
          let ticket : Ticket = record { number = c.args.number; next = NONE } in
          let written : List Ticket = set table place ticket in
          let before = w.index_mut-else-ends.result.now in
          let now : Ends = record { first = e.first; last = place } in
          let below =
          last_below table ends inside.free.items (vec_capacity inside.free) c.self.invariant c.args.self.now.lists lists cown c.id.result e c.id.ensures
          c.index-ends.ensures c.requires.cown w.if-ends.false in
          let read = ticket_read written e.last before (omega (arith, below, length-set table place ticket)) w.index_mut-else-ends.ensures.value in
          let first : again.first ≡ e.first =
          first_again table ends inside.free.items (vec_capacity inside.free) c.self.invariant c.args.self.now.lists lists cown c.id.result e c.id.ensures
          c.index-ends.ensures again c.id-2.result c.id-2.ensures c.requires.cown
          (rw w.self-inside-is at c.index_mut-2.ensures.value) in
          rw w.self-inside-is
          (Becomes-same _ (set ends cown now) _ c.take_last-place.new.self.items _ (vec_capacity inside.free) _ _
          (rw (c.id-2.ensures, first) refl) refl c.take_last-place.ensures.capacity
          (pushed_behind table ends inside.free.items (vec_capacity inside.free) c.self.invariant c.args.self.now.lists lists cown c.id.result e c.id.ensures
          c.index-ends.ensures c.take_last-place.new.self.items c.args.number place before.number c.requires.cown c.take_last-place.ensures.items
          w.if-ends.false (ap (λ (t : Ticket). t.number) read)))
    ]

pub invariant_of-self : goal.invariant_of-self
invariant_of-self c = (pushes (goal.at.invariant_of-self c).After-index_mut-2).0

pub returns-clause-lists : goal.returns-clause-lists
returns-clause-lists c = (pushes (goal.at.returns-clause-lists c).After-index_mut-2).1
