-- One chain of tickets: what its places hold, and what a change of tickets leaves.
use Rattle.std.proofs.Common.{◌≡◌, ◌≢◌, ℕ, zero, suc, ◌+◌, ◌<◌, ◌≤◌, if◌then◌else◌, ◌==◌, nat_lt, List, [], ◌∷◌, ◌++◌, length, drop, refl, sym, ap, ap₂, ◌∙◌, subst, arith, eq-eqb, ne_eqb, lt-ltb, le-ltb}
use Rattle.std.proofs.lemmas.Bool.{cond-true, cond-false}
use Rattle.std.proofs.lemmas.List.Sums.{sum_by-cons, sum_by_push}
use Rattle.cown_queue.specs.inner.Chains.{ticket_at, numbers_from, IsChain, last_or, IsQueue}
use Rattle.cown_queue.specs.inner.Occurrences.{occurrences}
use Rattle.cown_queue.specs.declared.tickets.Ends.{Ends}
use Rattle.cown_queue.specs.declared.tickets.TheConstants.{NONE}
use Rattle.cown_queue.specs.declared.tickets.Ticket.{Ticket}

-- ---- how often a place is among others

-- 1 if two places are the same, else 0
abbrev pub one_if : ℕ → ℕ → ℕ
one_if other place = if other == place then 1 else 0

pub one_if-same : (other place : ℕ) → other ≡ place → one_if other place ≡ 1
one_if-same other place e = cond-true {A = ℕ} (other == place) 1 0 (eq-eqb other place e)

pub one_if-other : (other place : ℕ) → other ≢ place → one_if other place ≡ 0
one_if-other other place ne = cond-false {A = ℕ} (other == place) 1 0 (ne_eqb other place ne)

pub occurrences-cons : (place first : ℕ) (places : List ℕ) → occurrences place (first ∷ places) ≡ one_if first place + occurrences place places
occurrences-cons place first places = sum_by-cons (λ other. one_if other place) first places

pub occurrences_push : (place last : ℕ) (places : List ℕ) → occurrences place (places ++ last ∷ []) ≡ occurrences place places + one_if last place
occurrences_push place last places = sum_by_push (λ other. one_if other place) places last

-- the first place is among them
pub occurrences-first : (first : ℕ) (places : List ℕ) → occurrences first (first ∷ places) ≡ 1 + occurrences first places
occurrences-first first places = omega (arith, occurrences-cons first first places, one_if-same first first refl)

-- and so is the last
pub occurrences-last : (first : ℕ) (places : List ℕ) → 0 < occurrences (last_or first places) (first ∷ places)
occurrences-last first [] = omega (arith, occurrences-first first [])
occurrences-last first (second ∷ places) =
    omega (arith, occurrences-cons (last_or second places) first (second ∷ places), occurrences-last second places)

pub last_or_push : (other : ℕ) (places : List ℕ) (last : ℕ) → last_or other (places ++ last ∷ []) ≡ last
last_or_push other [] last = refl
last_or_push other (place ∷ places) last = last_or_push place places last

-- ---- what a chain has

-- a chain has as many numbers as places
pub IsChain-length : (table : List Ticket) (first : ℕ) (places numbers : List ℕ) → IsChain table first places numbers
    → length places ≡ length numbers
IsChain-length table first [] [] chain = refl
IsChain-length table first [] (number ∷ numbers) chain = absurd chain
IsChain-length table first (place ∷ places) [] chain = absurd chain
IsChain-length table first (place ∷ places) (number ∷ numbers) chain =
    ap suc (IsChain-length table (ticket_at table place).next places numbers chain.3)

-- the numbers of a chain are those found from its first ticket on
pub numbers_from-chain : (table : List Ticket) (steps first : ℕ) (places numbers : List ℕ) → length table ≤ NONE
    → IsChain table first places numbers → length places ≤ steps → numbers_from table steps first ≡ numbers
numbers_from-chain table zero first [] [] fits chain enough = refl
numbers_from-chain table zero first [] (number ∷ numbers) fits chain enough = absurd chain
numbers_from-chain table zero first (place ∷ places) numbers fits chain enough = absurd (omega arith)
numbers_from-chain table (suc steps) first [] [] fits chain enough =
    cond-false (nat_lt first (length table)) _ [] (le-ltb first (length table) (omega arith))
numbers_from-chain table (suc steps) first [] (number ∷ numbers) fits chain enough = absurd chain
numbers_from-chain table (suc steps) first (place ∷ places) [] fits chain enough = absurd chain
numbers_from-chain table (suc steps) first (place ∷ places) (number ∷ numbers) fits chain enough =
    let rest = numbers_from-chain table steps (ticket_at table place).next places numbers fits chain.3 (omega arith) in
    ap (numbers_from table (suc steps)) chain.0
    ∙ cond-true (nat_lt place (length table)) _ [] (lt-ltb place (length table) chain.1)
    ∙ ap₂ ◌∷◌ chain.2 rest

-- a chain whose tickets stay is still a chain
pub IsChain-stays : (old new : List Ticket) (first : ℕ) (places numbers : List ℕ) → length old ≤ length new
    → ((place : ℕ) → 0 < occurrences place places → ticket_at new place ≡ ticket_at old place) → IsChain old first places numbers
    → IsChain new first places numbers
IsChain-stays old new first [] [] more same chain = chain
IsChain-stays old new first [] (number ∷ numbers) more same chain = absurd chain
IsChain-stays old new first (place ∷ places) [] more same chain = absurd chain
IsChain-stays old new first (place ∷ places) (number ∷ numbers) more same chain =
    let here : ticket_at new place ≡ ticket_at old place = same place (omega (arith, occurrences-first place places)) in
    let rest =
    IsChain-stays old new (ticket_at old place).next places numbers more
    (λ other among. same other (omega (arith, occurrences-cons other place places))) chain.3 in (
      chain.0,
      omega (arith, chain.1),
      ap (λ (t : Ticket). t.number) here ∙ chain.2,
      subst (λ (t : Ticket). IsChain new t.next places numbers) (sym here) rest,
    )

-- ---- one more ticket after the last

-- the last ticket gets the place of the new one; the others stay
pub IsChain_push : (old new : List Ticket) (first head : ℕ) (places numbers : List ℕ) (place number : ℕ)
    → length old ≤ length new → place < length new → ticket_at new place ≡ record { number = number; next = NONE }
    → ticket_at new (last_or head places) ≡ record { number = (ticket_at old (last_or head places)).number; next = place }
    → ((other : ℕ) → 0 < occurrences other (head ∷ places) → other ≢ last_or head places → ticket_at new other ≡ ticket_at old other)
    → ((other : ℕ) → occurrences other (head ∷ places) ≤ 1) → IsChain old first (head ∷ places) numbers
    → IsChain new first ((head ∷ places) ++ place ∷ []) (numbers ++ number ∷ [])
IsChain_push old new first head places [] place number more within placed before same once chain = absurd chain
IsChain_push old new first head [] (n ∷ []) place number more within placed before same once chain = (
  chain.0,
  omega (arith, chain.1),
  ap (λ (t : Ticket). t.number) before ∙ chain.2,
  (
    ap (λ (t : Ticket). t.next) before,
    within,
    ap (λ (t : Ticket). t.number) placed,
    ap (λ (t : Ticket). t.next) placed,
  ),
)
IsChain_push old new first head [] (n ∷ m ∷ numbers) place number more within placed before same once chain = absurd chain.3
IsChain_push old new first head (second ∷ places) (n ∷ numbers) place number more within placed before same once chain =
    let last : ℕ = last_or second places in
    let alone : occurrences head (second ∷ places) ≡ 0 = omega (arith, once head, occurrences-first head (second ∷ places)) in
    let apart : head ≢ last = λ e. omega (arith, alone, ap (λ other. occurrences other (second ∷ places)) e, occurrences-last second places) in
    let here : ticket_at new head ≡ ticket_at old head = same head (omega (arith, occurrences-first head (second ∷ places))) apart in
    let rest =
    IsChain_push old new (ticket_at old head).next second places numbers place number more within placed before
    (λ other among ne. same other (omega (arith, occurrences-cons other head (second ∷ places))) ne)
    (λ other. omega (arith, once other, occurrences-cons other head (second ∷ places))) chain.3 in (
      chain.0,
      omega (arith, chain.1),
      ap (λ (t : Ticket). t.number) here ∙ chain.2,
      subst (λ (t : Ticket). IsChain new t.next ((second ∷ places) ++ place ∷ []) (numbers ++ number ∷ [])) (sym here) rest,
    )

-- ---- the chain between its ends

pub IsQueue-same : (table : List Ticket) (ends other : Ends) (places others numbers more : List ℕ) → ends ≡ other
    → places ≡ others → numbers ≡ more → IsQueue table other others more → IsQueue table ends places numbers
IsQueue-same table ends other places others numbers more e p n queue = rw (e, p, n) queue

-- a cown without a last ticket has no tickets
pub IsQueue-none : (table : List Ticket) (ends : Ends) (places numbers : List ℕ) → IsQueue table ends places numbers
    → ((place : ℕ) → 0 < occurrences place places → place < NONE) → ends.last ≡ NONE → (places ≡ []) × (numbers ≡ [])
IsQueue-none table ends [] [] queue below e = (refl, refl)
IsQueue-none table ends [] (number ∷ numbers) queue below e = absurd queue.chain
IsQueue-none table ends (place ∷ places) numbers queue below e =
    absurd (omega (arith, below (last_or place places) (occurrences-last place places), queue.last))

-- a last ticket is one of the cown's own
pub IsQueue-last : (table : List Ticket) (ends : Ends) (places numbers : List ℕ) → IsQueue table ends places numbers → ends.last ≢ NONE
    → 0 < occurrences ends.last places
IsQueue-last table ends [] numbers queue ne = absurd (ne queue.last)
IsQueue-last table ends (place ∷ places) numbers queue ne =
    subst (λ last. 0 < occurrences last (place ∷ places)) (sym queue.last) (occurrences-last place places)

-- a cown with numbers has its first ticket in the table
pub IsQueue-first : (table : List Ticket) (ends : Ends) (places numbers : List ℕ) → IsQueue table ends places numbers → 0 < length numbers
    → ends.first < length table
IsQueue-first table ends places [] queue held = absurd (omega arith)
IsQueue-first table ends [] (number ∷ numbers) queue held = absurd queue.chain
IsQueue-first table ends (place ∷ places) (number ∷ numbers) queue held = omega (arith, queue.chain.0, queue.chain.1)

-- one more number at a cown with others
pub IsQueue_push : (old new : List Ticket) (ends : Ends) (places numbers : List ℕ) (place number : ℕ) → length old ≤ length new
    → place < length new → ticket_at new place ≡ record { number = number; next = NONE }
    → ticket_at new ends.last ≡ record { number = (ticket_at old ends.last).number; next = place }
    → ((other : ℕ) → 0 < occurrences other places → other ≢ ends.last → ticket_at new other ≡ ticket_at old other)
    → ((other : ℕ) → occurrences other places ≤ 1) → ends.last ≢ NONE → IsQueue old ends places numbers
    → IsQueue new (record { first = ends.first; last = place }) (places ++ place ∷ []) (numbers ++ number ∷ [])
IsQueue_push old new ends [] numbers place number more within placed before same once some queue = absurd (some queue.last)
IsQueue_push old new ends (head ∷ places) numbers place number more within placed before same once some queue = record {
  chain = IsChain_push old new ends.first head places numbers place number more within placed
      (subst (λ last. ticket_at new last ≡ record { number = (ticket_at old last).number; next = place }) queue.last before)
      (λ other among ne. same other among (λ e. ne (e ∙ queue.last))) once queue.chain;
  last = sym (last_or_push NONE (head ∷ places) place);
}

-- a cown without its first ticket
IsQueue-rest : (table : List Ticket) (ends : Ends) (head : ℕ) (places numbers : List ℕ) (next last : ℕ)
    → IsQueue table ends (head ∷ places) numbers → ((place : ℕ) → 0 < occurrences place (head ∷ places) → place < NONE)
    → next ≡ (ticket_at table ends.first).next → (next ≡ NONE → last ≡ NONE) → (next ≢ NONE → last ≡ ends.last)
    → IsQueue table (record { first = next; last = last }) places (drop 1 numbers)
IsQueue-rest table ends head places [] next last queue below seen none some = absurd queue.chain
IsQueue-rest table ends head [] (number ∷ []) next last queue below seen none some =
    let same = seen ∙ ap (λ place. (ticket_at table place).next) queue.chain.0 in
    record { chain = same ∙ queue.chain.3; last = none (same ∙ queue.chain.3) }
IsQueue-rest table ends head [] (number ∷ second ∷ numbers) next last queue below seen none some = absurd queue.chain.3
IsQueue-rest table ends head (second ∷ places) (number ∷ []) next last queue below seen none some = absurd queue.chain.3
IsQueue-rest table ends head (second ∷ places) (number ∷ more ∷ numbers) next last queue below seen none some =
    let same : next ≡ second = seen ∙ ap (λ place. (ticket_at table place).next) queue.chain.0 ∙ queue.chain.3.0 in
    let here = below second (omega (arith, occurrences-cons second head (second ∷ places), occurrences-first second places)) in
    record {
      chain = (same, queue.chain.3.1, queue.chain.3.2, queue.chain.3.3);
      last = some (λ e. omega (arith, here, same, e)) ∙ queue.last;
    }

-- a cown with numbers has a first ticket, and then the others
pub IsQueue-parts : (table : List Ticket) (ends : Ends) (places numbers : List ℕ) (next last : ℕ) → IsQueue table ends places numbers
    → 0 < length numbers → ((place : ℕ) → 0 < occurrences place places → place < NONE) → next ≡ (ticket_at table ends.first).next
    → (next ≡ NONE → last ≡ NONE) → (next ≢ NONE → last ≡ ends.last)
    → (rest : List ℕ) × ((places ≡ ends.first ∷ rest) × IsQueue table (record { first = next; last = last }) rest (drop 1 numbers))
IsQueue-parts table ends [] [] next last queue held below seen none some = absurd (omega arith)
IsQueue-parts table ends [] (number ∷ numbers) next last queue held below seen none some = absurd queue.chain
IsQueue-parts table ends (head ∷ places) [] next last queue held below seen none some = absurd (omega arith)
IsQueue-parts table ends (head ∷ places) (number ∷ numbers) next last queue held below seen none some = (
  places,
  (
    ap (λ place. place ∷ places) (sym queue.chain.0),
    IsQueue-rest table ends head places (number ∷ numbers) next last queue below seen none some,
  ),
)
