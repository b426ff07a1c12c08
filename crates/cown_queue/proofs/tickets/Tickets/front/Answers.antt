use Rattle.std.proofs.Common.{◌≡◌, ◌<◌, ◌≤◌, Option, Some, None, ℕ, length, sym, ap, ◌∙◌, subst, arith}
use Rattle.cown_queue.proofs.TicketSteps.{ends_read, front_none, front_some, ticket_read}
use Rattle.cown_queue.specs.inner.Chains.{TicketLists, ends_at}
use Rattle.cown_queue.specs.Queues.{front_of}
use Rattle.cown_queue.proofs.tickets.Tickets.front.Goals as goal
use Rattle.cown_queue.proofs.tickets.Tickets.front.Goals.{In_ok-first}

-- the ends that were read are those of the cown
at_cown : (c : In_ok-first) → (c.args.cown < length c.self.inside.ends.items) × (c.in_ok-first.field-0.now ≡ ends_at c.self.inside.ends.items c.args.cown)
at_cown c =
    let read = rw (c.deref.ensures.value, c.id.ensures) at c.in_ok-first.ensures.lookup.1 in
    let within : c.args.cown < length c.self.inside.ends.items =
    omega (arith, c.in_ok-first.ensures.lookup.3.0, c.id.ensures, ap length c.deref.ensures.value) in
    (within, ends_read c.self.inside.ends.items c.args.cown c.in_ok-first.field-0.now within read)

pub returns-in_err-get : goal.returns-in_err-get
returns-in_err-get c =
    let inside = c.self.inside in
    let ends = c.in_ok-first.field-0.now in
    let read = at_cown (goal.at.returns-in_err-get c).In_ok-first in
    let past : length inside.table.items ≤ ends.first = omega (arith, c.in_err-get.ensures.lookup.3, ap length c.deref-2.ensures.value) in
    c.from_residual-in_err-get.ensures
    ∙ subst (λ (v : TicketLists). ◌≡◌ {A = Option ℕ} None (front_of v.lists c.args.cown)) c.self.view_is
    (sym (front_none inside.table.items inside.ends.items c.args.cown ends read.0 read.1 past))

pub returns : goal.returns
returns c =
    let inside = c.self.inside in
    let ends = c.in_ok-first.field-0.now in
    let ticket = c.in_ok-get.field-0.now in
    let read = at_cown (goal.at.returns c).In_ok-first in
    let here : ends.first < length inside.table.items = omega (arith, c.in_ok-get.ensures.lookup.3.0, ap length c.deref-2.ensures.value) in
    let found = ticket_read inside.table.items ends.first ticket here (rw c.deref-2.ensures.value at c.in_ok-get.ensures.lookup.1) in
    subst (λ (v : TicketLists). Some ticket.number ≡ front_of v.lists c.args.cown) c.self.view_is
    (sym (front_some inside.table.items inside.ends.items c.args.cown ends ticket read.0 read.1 here found))
