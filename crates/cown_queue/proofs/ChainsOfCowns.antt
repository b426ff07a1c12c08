-- The chains of all cowns together: what a change of one leaves of the others.
use Rattle.std.proofs.Common.{◌≡◌, ◌≢◌, ℕ, ◌+◌, ◌<◌, ◌≤◌, if◌then◌else◌, nat_lt, List, [], ◌∷◌, ◌++◌, length, replicate, get_or, set, drop, sum_by, inl, inr, refl, sym, ap, ◌∙◌, subst, arith, lt-ltb, le-ltb, length-drop, length-set}
use Rattle.std.proofs.lemmas.Bool.{cases_eq, cases_lt, cond-true, cond-false}
use Rattle.std.proofs.lemmas.Grind.{get_or-set_at}
use Rattle.std.proofs.lemmas.List.{get_or-map, get_or-replicate, get_or-set_other, get_or-set_same, get_or_append_left, get_or_default, get_or_past, length-map, length-replicate, length_push, same_lists}
use Rattle.std.proofs.lemmas.List.Folds.{sum_by-replicate}
use Rattle.std.proofs.lemmas.List.Sums.{get_or-le-sum_by, sum-map, sum_by-set}
use Rattle.cown_queue.specs.inner.Chains.{ticket_at, ends_at, numbers_from, lists_of, IsQueue, AreChains, AreTickets}
use Rattle.cown_queue.specs.inner.Occurrences.{occurrences}
use Rattle.cown_queue.specs.Queues.{list_of, queued_in}
use Rattle.cown_queue.specs.declared.tickets.Ends.{Ends}
use Rattle.cown_queue.specs.declared.tickets.TheConstants.{NONE}
use Rattle.cown_queue.specs.declared.tickets.Ticket.{Ticket}
use Rattle.cown_queue.proofs.Chains.{one_if, one_if-same, one_if-other, occurrences-cons, occurrences_push, IsChain-length, IsChain-stays, numbers_from-chain, IsQueue-same, IsQueue-none, IsQueue-last, IsQueue-first, IsQueue-parts, IsQueue_push}

-- ---- counts of all chains

-- 1 if the place is within a table of this length, else 0
abbrev one_below : ℕ → ℕ → ℕ
one_below place bound = if nat_lt place bound then 1 else 0

one_below-yes : (place bound : ℕ) → place < bound → one_below place bound ≡ 1
one_below-yes place bound l = cond-true {A = ℕ} (nat_lt place bound) 1 0 (lt-ltb place bound l)

one_below-no : (place bound : ℕ) → bound ≤ place → one_below place bound ≡ 0
one_below-no place bound l = cond-false {A = ℕ} (nat_lt place bound) 1 0 (le-ltb place bound l)

one_below-le : (place bound : ℕ) → one_below place bound ≤ 1
one_below-le place bound = elim (cases_lt place bound) [
  | inl l ↦ omega (arith, one_below-yes place bound l)
  | inr l ↦ omega (arith, one_below-no place bound l)
]

-- a table that is one longer has one place more
one_below-more : (place bound : ℕ) → one_below place bound + one_if bound place ≡ one_below place (bound + 1)
one_below-more place bound = elim (cases_lt place bound) [
  | inl l ↦ omega (
    arith,
    one_below-yes place bound l,
    one_if-other bound place (λ e. omega (arith, e)),
    one_below-yes place (bound + 1) (omega arith),
  )
  | inr l ↦ past l
]
  where
    past : bound ≤ place → one_below place bound + one_if bound place ≡ one_below place (bound + 1)
    past l = elim (cases_eq bound place) [
      | inl e ↦ omega (arith, one_below-no place bound l, one_if-same bound place e, one_below-yes place (bound + 1) (omega (arith, e)))
      | inr ne ↦ omega (arith, one_below-no place bound l, one_if-other bound place ne, one_below-no place (bound + 1) (omega (arith, ne)))
    ]

-- a place occurs in one chain at most as often as in all
occurrences-chain : (place : ℕ) (chains : List (List ℕ)) (cown : ℕ) → occurrences place (list_of chains cown) ≤ sum_by (occurrences place) chains
occurrences-chain place chains cown = elim (cases_lt cown (length chains)) [
  | inl l ↦ get_or-le-sum_by (occurrences place) chains cown [] l
  | inr l ↦ let none = ap (occurrences place) (get_or_past chains cown [] l) in omega (arith, none)
]

-- and the same for two chains
occurrences-two : (place : ℕ) (chains : List (List ℕ)) (cown other : ℕ) → other ≢ cown
    → occurrences place (list_of chains cown) + occurrences place (list_of chains other) ≤ sum_by (occurrences place) chains
occurrences-two place chains cown other ne = elim (cases_lt cown (length chains)) [ inl l ↦ within l | inr l ↦ past l ]
  where
    within : cown < length chains → occurrences place (list_of chains cown) + occurrences place (list_of chains other) ≤ sum_by (occurrences place) chains
    within l =
        let without = sum_by-set (occurrences place) chains cown [] [] l in
        let same = ap (occurrences place) (get_or-set_other chains cown other [] [] ne) in
        omega (arith, without, same, occurrences-chain place (set chains cown []) other)

    past : length chains ≤ cown → occurrences place (list_of chains cown) + occurrences place (list_of chains other) ≤ sum_by (occurrences place) chains
    past l =
        let none = ap (occurrences place) (get_or_past chains cown [] l) in
        omega (arith, none, occurrences-chain place chains other)

-- one list has at most as many numbers as all lists together
length-list_of : (lists : List (List ℕ)) (cown : ℕ) → length (list_of lists cown) ≤ queued_in lists
length-list_of lists cown = elim (cases_lt cown (length lists)) [
  | inl l ↦ omega (arith, get_or-le-sum_by length lists cown [] l, sum-map length lists)
  | inr l ↦ let none = ap length (get_or_past lists cown [] l) in omega (arith, none)
]

-- ---- where places are

module _ {table : List Ticket} {ends : List Ends} {free : List ℕ} {lists : List (List ℕ)} (linked : AreChains table ends free lists) where
  -- a place in a chain, or a free one, is within the table
  within_table : (place : ℕ) → 0 < sum_by (occurrences place) linked.chains + occurrences place free → place < length table
  within_table place some = elim (cases_lt place (length table)) [
    | inl l ↦ l
    | inr l ↦ absurd (omega (arith, linked.once place, one_below-no place (length table) l))
  ]

  in_chain : (cown place : ℕ) → 0 < occurrences place (list_of linked.chains cown) → place < length table
  in_chain cown place among = within_table place (omega (arith, among, occurrences-chain place linked.chains cown))

  -- the place that is taken next is within the table
  pub free_within : (rest : List ℕ) (place : ℕ) → free ≡ rest ++ place ∷ [] → place < length table
  free_within rest place e =
      let here = ap (occurrences place) e in
      within_table place (omega (arith, here, occurrences_push place place rest, one_if-same place place refl))

  -- the chain of a cown, from the ends that were read there
  pub queue_at : (cown : ℕ) (e : Ends) → e ≡ ends_at ends cown → IsQueue table e (list_of linked.chains cown) (list_of lists cown)
  queue_at cown e read = rw read (linked.each cown)

  -- the places of these ends are within the table
  pub last_within : (cown : ℕ) (e : Ends) → e ≡ ends_at ends cown → e.last ≢ NONE → e.last < length table
  last_within cown e read some =
      in_chain cown e.last (IsQueue-last table e (list_of linked.chains cown) (list_of lists cown) (queue_at cown e read) some)

  pub first_within : (cown : ℕ) (e : Ends) → e ≡ ends_at ends cown → 0 < length (list_of lists cown) → e.first < length table
  first_within cown e read held = IsQueue-first table e (list_of linked.chains cown) (list_of lists cown) (queue_at cown e read) held

  -- a cown with a list that isn't empty exists
  pub cown_within : (cown : ℕ) → 0 < length (list_of lists cown) → cown < length ends
  cown_within cown some = elim (cases_lt cown (length ends)) [
    | inl l ↦ l
    | inr l ↦ let none = ap length (get_or_past lists cown [] (omega (arith, linked.list_count))) in absurd (omega (arith, none, some))
  ]

  -- if a cown has a number, not all places are free
  pub some_held : (cown : ℕ) → 0 < length (list_of lists cown) → length free < length table
  some_held cown some = omega (arith, some, length-list_of lists cown, linked.all)

  -- the lists found from the first tickets on
  pub lists_of-linked : length table ≤ NONE → lists_of table ends ≡ lists
  lists_of-linked fits =
      same_lists (lists_of table ends) lists (length-map ends (λ e. numbers_from table (length table) e.first) ∙ sym linked.list_count) each
    where
      each : (cown : ℕ) (default : List ℕ) → cown < length (lists_of table ends) → get_or (lists_of table ends) cown default ≡ get_or lists cown default
      each cown default l =
          let queue = linked.each cown in
          let many = length-map ends (λ e. numbers_from table (length table) e.first) in
          let within : cown < length ends = omega (arith, l, many) in
          let places = list_of linked.chains cown in
          let short : length places ≤ length table =
          omega (arith, IsChain-length table (ends_at ends cown).first places (list_of lists cown) queue.chain, length-list_of lists cown, linked.all) in
          get_or-map (λ (e : Ends). numbers_from table (length table) e.first) ends cown (record { first = NONE; last = NONE }) default within
          ∙ numbers_from-chain table (length table) (ends_at ends cown).first places (list_of lists cown) fits queue.chain short
          ∙ get_or_default lists cown [] default (omega (arith, within, linked.list_count))

  -- so the tickets are valid
  pub AreTickets-linked : (capacity : ℕ) → length table ≤ NONE → length table ≤ capacity → AreTickets table ends free capacity
  AreTickets-linked capacity fits room = record {
    linked = subst (AreChains table ends free) (sym (lists_of-linked fits)) linked;
    fits = fits;
    room = room;
  }

-- ---- one chain changes

-- If each place occurs as often as before in the cown's chain and the free places together, and
-- only tickets there changed, all other chains stay.
linked_change : (old new : List Ticket) (ends : List Ends) (free freed : List ℕ) (lists : List (List ℕ)) (linked : AreChains old ends free lists)
    (cown : ℕ) (e : Ends) (places numbers : List ℕ) → cown < length ends → length new ≡ length old → IsQueue new e places numbers
    → ((place : ℕ) → occurrences place places + occurrences place freed ≡ occurrences place (list_of linked.chains cown) + occurrences place free)
    → ((place : ℕ) → occurrences place (list_of linked.chains cown) ≡ 0 → occurrences place free ≡ 0 → ticket_at new place ≡ ticket_at old place)
    → length numbers + length freed ≡ length (list_of lists cown) + length free
    → AreChains new (set ends cown e) freed (set lists cown numbers)
linked_change old new ends free freed lists linked cown e places numbers within same queue counts stays many = record {
  chains = set linked.chains cown places;
  list_count = length-set lists cown numbers ∙ linked.list_count ∙ sym (length-set ends cown e);
  chain_count = length-set linked.chains cown places ∙ linked.chain_count ∙ sym (length-set ends cown e);
  each = λ other. elim (cases_eq other cown) [ inl at ↦ here other at | inr ne ↦ there other ne ];
  once = once;
  all = all;
}
  where
    chain_within : cown < length linked.chains
    chain_within = omega (arith, within, linked.chain_count)

    list_within : cown < length lists
    list_within = omega (arith, within, linked.list_count)

    here : (other : ℕ) → other ≡ cown
        → IsQueue new (ends_at (set ends cown e) other) (list_of (set linked.chains cown places) other) (list_of (set lists cown numbers) other)
    here other at =
        IsQueue-same new _ e _ places _ numbers (get_or-set_at ends cown other e _ at within) (get_or-set_at linked.chains cown other places [] at chain_within)
        (get_or-set_at lists cown other numbers [] at list_within) queue

    there : (other : ℕ) → other ≢ cown
        → IsQueue new (ends_at (set ends cown e) other) (list_of (set linked.chains cown places) other) (list_of (set lists cown numbers) other)
    there other ne =
        let old_queue = linked.each other in
        let kept : IsQueue new (ends_at ends other) (list_of linked.chains other) (list_of lists other) = record {
          chain = IsChain-stays old new (ends_at ends other).first (list_of linked.chains other) (list_of lists other) (omega (arith, same))
              (λ place among.
              let counted : occurrences place (list_of linked.chains cown) + occurrences place free ≡ 0 =
              omega (arith, among, occurrences-two place linked.chains cown other ne, linked.once place, one_below-le place (length old)) in
              stays place (omega (arith, counted)) (omega (arith, counted)))
              old_queue.chain;
          last = old_queue.last;
        } in
        IsQueue-same new _ (ends_at ends other) _ (list_of linked.chains other) _ (list_of lists other) (get_or-set_other ends cown other e _ ne)
        (get_or-set_other linked.chains cown other places [] ne) (get_or-set_other lists cown other numbers [] ne) kept

    once : (place : ℕ) → sum_by (occurrences place) (set linked.chains cown places) + occurrences place freed ≡ one_below place (length new)
    once place =
        let moved : sum_by (occurrences place) (set linked.chains cown places) + occurrences place freed
        ≡ sum_by (occurrences place) linked.chains + occurrences place free =
        omega (arith, sum_by-set (occurrences place) linked.chains cown places [] chain_within, counts place) in
        moved ∙ linked.once place ∙ ap (one_below place) (sym same)

    all : queued_in (set lists cown numbers) + length freed ≡ length new
    all =
        omega (
          arith,
          sum-map length (set lists cown numbers),
          sum-map length lists,
          sum_by-set length lists cown numbers [] list_within,
          many,
          linked.all,
          same,
        )

-- ---- the changes

get_or-replicate_same : {A : Type 0} (count place : ℕ) (a : A) → get_or (replicate count a) place a ≡ a
get_or-replicate_same count place a = elim (cases_lt place count) [
  | inl l ↦ get_or-replicate count place a a l
  | inr l ↦ get_or_past (replicate count a) place a (omega (arith, length-replicate count a))
]

-- no tickets
pub linked_none : (cowns : ℕ) → AreChains [] (replicate cowns (record { first = NONE; last = NONE })) [] (replicate cowns [])
linked_none cowns = record {
  chains = replicate cowns [];
  list_count = length-replicate cowns [] ∙ sym (length-replicate cowns (record { first = NONE; last = NONE }));
  chain_count = length-replicate cowns [] ∙ sym (length-replicate cowns (record { first = NONE; last = NONE }));
  each = λ cown.
      IsQueue-same [] _ (record { first = NONE; last = NONE }) _ [] _ [] (get_or-replicate_same cowns cown (record { first = NONE; last = NONE }))
      (get_or-replicate_same cowns cown []) (get_or-replicate_same cowns cown []) (record { chain = refl; last = refl });
  once = λ place. omega (arith, sum_by-replicate (occurrences place) cowns [], one_below-no place 0 (omega arith));
  all = omega (arith, sum-map (length {A = ℕ}) (replicate cowns []), sum_by-replicate (length {A = ℕ}) cowns []);
}

-- one more place, which is free
pub linked_more : (table : List Ticket) (ends : List Ends) (free : List ℕ) (lists : List (List ℕ)) (ticket : Ticket) (place : ℕ)
    → place ≡ length table → AreChains table ends free lists → AreChains (table ++ ticket ∷ []) ends (free ++ place ∷ []) lists
linked_more table ends free lists ticket place e linked = record {
  chains = linked.chains;
  list_count = linked.list_count;
  chain_count = linked.chain_count;
  each = λ cown. record {
    chain = IsChain-stays table (table ++ ticket ∷ []) (ends_at ends cown).first (list_of linked.chains cown) (list_of lists cown)
        (omega (arith, length_push table ticket))
        (λ other among. get_or_append_left table (ticket ∷ []) _ other (in_chain linked cown other among)) (linked.each cown).chain;
    last = (linked.each cown).last;
  };
  once = λ other.
      let more = one_below-more other (length table) in
      let long = ap (one_below other) (length_push table ticket) in
      let at = ap (λ n. one_if n other) e in
      omega (arith, occurrences_push other place free, linked.once other, more, long, at);
  all = omega (arith, linked.all, length_push table ticket, length_push free place);
}

-- the first number at a cown: its ticket takes a free place
pub linked_first : (table : List Ticket) (ends : List Ends) (free rest : List ℕ) (lists : List (List ℕ)) (cown number place : ℕ) (e : Ends)
    → AreChains table ends free lists → length table ≤ NONE → cown < length ends → e ≡ ends_at ends cown → free ≡ rest ++ place ∷ []
    → e.last ≡ NONE
    → AreChains (set table place (record { number = number; next = NONE })) (set ends cown (record { first = place; last = place })) rest
    (set lists cown (list_of lists cown ++ number ∷ []))
linked_first table ends free rest lists cown number place e linked fits within read takes idle =
    subst (λ (old : List ℕ). AreChains new (set ends cown one) rest (set lists cown (old ++ number ∷ []))) (sym none.1)
    (linked_change table new ends free rest lists linked cown one (place ∷ []) (number ∷ []) within long queue counts stays many)
  where
    ticket : Ticket
    ticket = record { number = number; next = NONE }

    one : Ends
    one = record { first = place; last = place }

    new : List Ticket
    new = set table place ticket

    here : place < length table
    here = free_within linked rest place takes

    long : length new ≡ length table
    long = length-set table place ticket

    written : ticket_at new place ≡ ticket
    written = get_or-set_same table place ticket _ here

    taken : (other : ℕ) → occurrences other free ≡ occurrences other rest + one_if place other
    taken other = ap (occurrences other) takes ∙ occurrences_push other place rest

    none : (list_of linked.chains cown ≡ []) × (list_of lists cown ≡ [])
    none =
        IsQueue-none table e (list_of linked.chains cown) (list_of lists cown) (queue_at linked cown e read)
        (λ other among. omega (arith, in_chain linked cown other among, fits)) idle

    queue : IsQueue new one (place ∷ []) (number ∷ [])
    queue = record {
      chain = (refl, omega (arith, here, long), ap (λ (t : Ticket). t.number) written, ap (λ (t : Ticket). t.next) written);
      last = refl;
    }

    counts : (other : ℕ) → occurrences other (place ∷ []) + occurrences other rest ≡ occurrences other (list_of linked.chains cown) + occurrences other free
    counts other = let before = ap (occurrences other) none.0 in omega (arith, before, taken other, occurrences-cons other place [])

    stays : (other : ℕ) → occurrences other (list_of linked.chains cown) ≡ 0 → occurrences other free ≡ 0 → ticket_at new other ≡ ticket_at table other
    stays other unlinked unfree =
        get_or-set_other table place other ticket _ (λ same. omega (arith, unfree, taken other, one_if-same place other (sym same)))

    many : length (number ∷ []) + length rest ≡ length (list_of lists cown) + length free
    many = let before = ap length none.1 in omega (arith, before, ap length takes, length_push rest place)

-- one more number at a cown with others: the last ticket gets the place of the new one
pub linked_behind : (table : List Ticket) (ends : List Ends) (free rest : List ℕ) (lists : List (List ℕ)) (cown number place before : ℕ) (e : Ends)
    → AreChains table ends free lists → cown < length ends → e ≡ ends_at ends cown → free ≡ rest ++ place ∷ [] → e.last ≢ NONE
    → before ≡ (ticket_at (set table place (record { number = number; next = NONE })) e.last).number
    → AreChains (set (set table place (record { number = number; next = NONE })) e.last (record { number = before; next = place }))
    (set ends cown (record { first = e.first; last = place })) rest (set lists cown (list_of lists cown ++ number ∷ []))
linked_behind table ends free rest lists cown number place before e linked within read takes some seen =
    linked_change table new ends free rest lists linked cown (record { first = e.first; last = place }) (chain ++ place ∷ []) (list ++ number ∷ []) within long
    queue counts stays many
  where
    chain : List ℕ
    chain = list_of linked.chains cown

    list : List ℕ
    list = list_of lists cown

    ticket : Ticket
    ticket = record { number = number; next = NONE }

    behind : Ticket
    behind = record { number = before; next = place }

    written : List Ticket
    written = set table place ticket

    new : List Ticket
    new = set written e.last behind

    long : length new ≡ length table
    long = length-set written e.last behind ∙ length-set table place ticket

    here : place < length table
    here = free_within linked rest place takes

    among : 0 < occurrences e.last chain
    among = IsQueue-last table e chain list (queue_at linked cown e read) some

    taken : (other : ℕ) → occurrences other free ≡ occurrences other rest + one_if place other
    taken other = ap (occurrences other) takes ∙ occurrences_push other place rest

    -- a free place is in no chain
    alone : (other : ℕ) → occurrences other chain + occurrences other free ≤ 1
    alone other = omega (arith, occurrences-chain other linked.chains cown, linked.once other, one_below-le other (length table))

    unlinked : (other : ℕ) → 0 < occurrences other chain → other ≢ place
    unlinked other in_it same = omega (arith, in_it, alone other, taken other, one_if-same place other (sym same))

    placed : ticket_at new place ≡ ticket
    placed =
        get_or-set_other written e.last place behind _ (λ same. unlinked e.last among (sym same)) ∙ get_or-set_same table place ticket _ here

    kept : ticket_at written e.last ≡ ticket_at table e.last
    kept = get_or-set_other table place e.last ticket _ (unlinked e.last among)

    moved : ticket_at new e.last ≡ record { number = (ticket_at table e.last).number; next = place }
    moved =
        get_or-set_same written e.last behind _ (omega (arith, last_within linked cown e read some, length-set table place ticket))
        ∙ ap (λ (n : ℕ). let t : Ticket = record { number = n; next = place } in t) (seen ∙ ap (λ (t : Ticket). t.number) kept)

    others : (other : ℕ) → other ≢ place → other ≢ e.last → ticket_at new other ≡ ticket_at table other
    others other ne unlast = get_or-set_other written e.last other behind _ unlast ∙ get_or-set_other table place other ticket _ ne

    queue : IsQueue new (record { first = e.first; last = place }) (chain ++ place ∷ []) (list ++ number ∷ [])
    queue =
        IsQueue_push table new e chain list place number (omega (arith, long)) (omega (arith, here, long)) placed moved
        (λ other in_it unlast. others other (unlinked other in_it) unlast) (λ other. omega (arith, alone other)) some (queue_at linked cown e read)

    counts : (other : ℕ) → occurrences other (chain ++ place ∷ []) + occurrences other rest ≡ occurrences other chain + occurrences other free
    counts other = omega (arith, occurrences_push other place chain, taken other)

    stays : (other : ℕ) → occurrences other chain ≡ 0 → occurrences other free ≡ 0 → ticket_at new other ≡ ticket_at table other
    stays other apart unfree =
        others other (λ same. omega (arith, unfree, taken other, one_if-same place other (sym same)))
        (λ same. let at = ap (λ p. occurrences p chain) same in omega (arith, apart, among, at))

    many : length (list ++ number ∷ []) + length rest ≡ length list + length free
    many = omega (arith, length_push list number, ap length takes, length_push rest place)

-- the first number of a cown leaves: the place of its ticket becomes free
pub linked_rest : (table : List Ticket) (ends : List Ends) (free : List ℕ) (lists : List (List ℕ)) (cown next last : ℕ) (e : Ends)
    → AreChains table ends free lists → length table ≤ NONE → e ≡ ends_at ends cown → 0 < length (list_of lists cown)
    → next ≡ (ticket_at table e.first).next → (next ≡ NONE → last ≡ NONE) → (next ≢ NONE → last ≡ e.last)
    → AreChains table (set ends cown (record { first = next; last = last })) (free ++ e.first ∷ []) (set lists cown (drop 1 (list_of lists cown)))
linked_rest table ends free lists cown next last e linked fits read held seen none some =
    let parts =
    IsQueue-parts table e (list_of linked.chains cown) (list_of lists cown) next last (queue_at linked cown e read) held
    (λ place among. omega (arith, in_chain linked cown place among, fits)) seen none some in
    linked_change table table ends free (free ++ e.first ∷ []) lists linked cown (record { first = next; last = last }) parts.0
    (drop 1 (list_of lists cown)) (cown_within linked cown held) refl parts.1.1
    (λ place.
    let before = ap (occurrences place) parts.1.0 in omega (arith, before, occurrences-cons place e.first parts.0, occurrences_push place e.first free))
    (λ place apart unfree. refl) (omega (arith, held, length-drop 1 (list_of lists cown), length_push free e.first))
