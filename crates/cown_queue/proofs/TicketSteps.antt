-- What a step on one cown makes of the tickets, from the results of its reads.
use Rattle.std.proofs.Common.{◌≡◌, ◌≢◌, ℕ, ◌<◌, ◌≤◌, Some, None, List, [], ◌∷◌, ◌++◌, length, replicate, get_or, set, drop, option_map, slice_get, inl, inr, refl, sym, ap, ◌∙◌, subst, arith, lt-ltb, le-ltb}
use Rattle.std.proofs.lemmas.Bool.{cases_lt, cond-true, cond-false}
use Rattle.std.proofs.lemmas.List.{get_or-map, get_or_read, length-set}
use Rattle.std.proofs.lemmas.Option.{slice_get-get_or, slice_get_past}
use Rattle.cown_queue.specs.inner.Chains.{ticket_at, ends_at, numbers_from, lists_of, AreChains, AreTickets}
use Rattle.cown_queue.specs.Queues.{front_of, list_of}
use Rattle.cown_queue.specs.declared.tickets.Ends.{Ends}
use Rattle.cown_queue.specs.declared.tickets.TheConstants.{NONE}
use Rattle.cown_queue.specs.declared.tickets.Ticket.{Ticket}
use Rattle.cown_queue.proofs.ChainsOfCowns.{AreTickets-linked, cown_within, first_within, last_within, lists_of-linked, linked_none, linked_first, linked_behind, linked_rest, some_held}

-- the results of reading a cown's ends and a ticket
pub ends_read : (ends : List Ends) (cown : ℕ) (e : Ends) → cown < length ends → e ≡ get_or ends cown e → e ≡ ends_at ends cown
ends_read ends cown e within read = get_or_read ends cown e within read (record { first = NONE; last = NONE })

pub ticket_read : (table : List Ticket) (place : ℕ) (ticket : Ticket) → place < length table → ticket ≡ get_or table place ticket
    → ticket ≡ ticket_at table place
ticket_read table place ticket within read = get_or_read table place ticket within read (record { number = 0; next = NONE })

-- ---- the front

-- the number of the first ticket, if there is one
numbers_from-front : (table : List Ticket) (first : ℕ)
    → slice_get (numbers_from table (length table) first) 0 ≡ option_map (λ (t : Ticket). t.number) (slice_get table first)
numbers_from-front [] first = refl
numbers_from-front (ticket ∷ tickets) first = elim (cases_lt first (length (ticket ∷ tickets))) [ inl l ↦ within l | inr l ↦ past l ]
  where
    table : List Ticket
    table = ticket ∷ tickets

    within : first < length table
        → slice_get (numbers_from table (length table) first) 0 ≡ option_map (λ (t : Ticket). t.number) (slice_get table first)
    within l =
        ap (λ (numbers : List ℕ). slice_get numbers 0) (cond-true _ _ [] (lt-ltb first (length table) l))
        ∙ ap (option_map (λ (t : Ticket). t.number)) (sym (slice_get-get_or table first (record { number = 0; next = NONE }) l))

    past : length table ≤ first
        → slice_get (numbers_from table (length table) first) 0 ≡ option_map (λ (t : Ticket). t.number) (slice_get table first)
    past l =
        ap (λ (numbers : List ℕ). slice_get numbers 0) (cond-false _ _ [] (le-ltb first (length table) l))
        ∙ ap (option_map (λ (t : Ticket). t.number)) (sym (slice_get_past table first l))

front_read : (table : List Ticket) (ends : List Ends) (cown : ℕ) (e : Ends) → cown < length ends → e ≡ ends_at ends cown
    → front_of (lists_of table ends) cown ≡ option_map (λ (t : Ticket). t.number) (slice_get table e.first)
front_read table ends cown e within read =
    let idle : Ends = record { first = NONE; last = NONE } in
    let numbers : Ends → List ℕ = λ e. numbers_from table (length table) e.first in
    ap (λ (list : List ℕ). slice_get list 0) (get_or-map numbers ends cown idle [] within ∙ ap numbers (sym read)) ∙ numbers_from-front table e.first

pub front_none : (table : List Ticket) (ends : List Ends) (cown : ℕ) (e : Ends) → cown < length ends → e ≡ ends_at ends cown → length table ≤ e.first
    → front_of (lists_of table ends) cown ≡ None
front_none table ends cown e within read past =
    front_read table ends cown e within read ∙ ap (option_map (λ (t : Ticket). t.number)) (slice_get_past table e.first past)

pub front_some : (table : List Ticket) (ends : List Ends) (cown : ℕ) (e : Ends) (ticket : Ticket) → cown < length ends → e ≡ ends_at ends cown
    → e.first < length table → ticket ≡ ticket_at table e.first → front_of (lists_of table ends) cown ≡ Some ticket.number
front_some table ends cown e ticket within read here seen =
    front_read table ends cown e within read
    ∙ ap (option_map (λ (t : Ticket). t.number))
    (slice_get-get_or table e.first (record { number = 0; next = NONE }) here ∙ ap (λ (t : Ticket). Some t) (sym seen))

-- ---- the changes

-- the tickets are linked again, and have these lists
abbrev pub Becomes : List Ticket → List Ends → List ℕ → ℕ → List (List ℕ) → Type 0
Becomes table ends free capacity lists = AreTickets table ends free capacity × (lists_of table ends ≡ lists)

becomes : (table : List Ticket) (ends : List Ends) (free : List ℕ) (capacity : ℕ) (lists : List (List ℕ)) → AreChains table ends free lists
    → length table ≤ NONE → length table ≤ capacity → Becomes table ends free capacity lists
becomes table ends free capacity lists linked fits room = (AreTickets-linked linked capacity fits room, lists_of-linked linked fits)

-- the same under other names of the parts
pub Becomes-same : (table : List Ticket) (ends others : List Ends) (free freed : List ℕ) (capacity room : ℕ) (lists : List (List ℕ)) → others ≡ ends
    → freed ≡ free → room ≡ capacity → Becomes table ends free capacity lists → Becomes table others freed room lists
Becomes-same table ends others free freed capacity room lists e f r new = rw (e, f, r) new

-- given these lists, and the ends e that were read at a cown
module _ (table : List Ticket) (ends : List Ends) (free : List ℕ) (capacity : ℕ) (tickets : AreTickets table ends free capacity)
    (lists : List (List ℕ)) (seen : lists_of table ends ≡ lists) (cown at : ℕ) (e : Ends) (same : at ≡ cown) (read : e ≡ get_or ends at e) where
  linked : AreChains table ends free lists
  linked = subst (AreChains table ends free) seen tickets.linked

  pub there : cown < length lists → cown < length ends
  there within = omega (arith, within, linked.list_count)

  ends_are : cown < length ends → e ≡ ends_at ends cown
  ends_are within = ends_read ends cown e within (rw same at read)

  -- the same first ticket is read again
  pub first_again : (again : Ends) (at' : ℕ) → at' ≡ cown → cown < length lists → again ≡ get_or ends at' again → again.first ≡ e.first
  first_again again at' is within found =
      ap (λ (e : Ends). e.first) (ends_read ends cown again (there within) (rw is at found) ∙ sym (ends_are (there within)))

  pub first_below : 0 < length (list_of lists cown) → e.first < length table
  first_below held = first_within linked cown e (ends_are (cown_within linked cown held)) held

  pub last_below : cown < length lists → e.last ≢ NONE → e.last < length table
  last_below within some = last_within linked cown e (ends_are (there within)) some

  -- a ticket leaves, so not all places were free
  pub free_below : 0 < length (list_of lists cown) → length free < length table
  free_below held = some_held linked cown held

  pub pushed_first : (rest : List ℕ) (number place : ℕ) → cown < length lists → free ≡ rest ++ place ∷ [] → e.last ≡ NONE
      → Becomes (set table place (record { number = number; next = NONE })) (set ends cown (record { first = place; last = place })) rest capacity
      (set lists cown (list_of lists cown ++ number ∷ []))
  pushed_first rest number place within takes idle =
      let long = length-set table place (record { number = number; next = NONE }) in
      becomes _ _ rest capacity _
      (linked_first table ends free rest lists cown number place e linked tickets.fits (there within) (ends_are (there within)) takes idle)
      (omega (arith, long, tickets.fits)) (omega (arith, long, tickets.room))

  pub pushed_behind : (rest : List ℕ) (number place before : ℕ) → cown < length lists → free ≡ rest ++ place ∷ [] → e.last ≢ NONE
      → before ≡ (ticket_at (set table place (record { number = number; next = NONE })) e.last).number
      → Becomes (set (set table place (record { number = number; next = NONE })) e.last (record { number = before; next = place }))
      (set ends cown (record { first = e.first; last = place })) rest capacity (set lists cown (list_of lists cown ++ number ∷ []))
  pushed_behind rest number place before within takes some kept =
      let ticket : Ticket = record { number = number; next = NONE } in
      let long = length-set (set table place ticket) e.last (record { number = before; next = place }) ∙ length-set table place ticket in
      becomes _ _ rest capacity _
      (linked_behind table ends free rest lists cown number place before e linked (there within) (ends_are (there within)) takes some kept)
      (omega (arith, long, tickets.fits)) (omega (arith, long, tickets.room))

  pub popped : (next last : ℕ) → 0 < length (list_of lists cown) → next ≡ (ticket_at table e.first).next → (next ≡ NONE → last ≡ NONE)
      → (next ≢ NONE → last ≡ e.last)
      → Becomes table (set ends cown (record { first = next; last = last })) (free ++ e.first ∷ []) capacity
      (set lists cown (drop 1 (list_of lists cown)))
  popped next last held after none some =
      becomes _ _ (free ++ e.first ∷ []) capacity _
      (linked_rest table ends free lists cown next last e linked tickets.fits (ends_are (cown_within linked cown held)) held after none some) tickets.fits
      tickets.room

-- no tickets, at these ends
pub opened : (table : List Ticket) (ends : List Ends) (free : List ℕ) (capacity cowns : ℕ) → table ≡ []
    → ends ≡ replicate cowns (record { first = NONE; last = NONE }) → free ≡ [] → Becomes table ends free capacity (replicate cowns [])
opened table ends free capacity cowns no_tickets idle no_places =
    rw (no_tickets, idle, no_places) (becomes [] _ [] capacity (replicate cowns []) (linked_none cowns) (omega arith) (omega arith))
