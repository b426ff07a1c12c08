-- Tickets in one table: the tickets of a cown are a chain, in which each names the place of the
-- next.
use Rattle.std.specs.Prelude.{◌≡◌, ℕ, zero, suc, ◌+◌, ◌<◌, ◌≤◌, nat_lt, if◌then◌else◌, List, [], ◌∷◌, length, map, get_or, sum_by}
use Rattle.cown_queue.specs.Queues.{list_of, queued_in}
use Rattle.cown_queue.specs.inner.Occurrences.{occurrences}
use Rattle.cown_queue.specs.declared.tickets.Ends.{Ends}
use Rattle.cown_queue.specs.declared.tickets.TheConstants.{NONE}
use Rattle.cown_queue.specs.declared.tickets.Ticket.{Ticket}

-- ---- what is seen of the tickets

-- the tickets as callers see them: a list of numbers for each cown, the number of free places, and
-- the number of all places
pub record TicketLists : Type 0 where
  pub lists : List (List ℕ)
  pub free : ℕ
  pub places : ℕ

-- the ticket at a place
abbrev pub ticket_at : List Ticket → ℕ → Ticket
ticket_at table place = get_or table place (record { number = 0; next = NONE })

-- the first and the last ticket of a cown
abbrev pub ends_at : List Ends → ℕ → Ends
ends_at ends cown = get_or ends cown (record { first = NONE; last = NONE })

-- the numbers of the tickets from a place on, in at most this many steps
abbrev pub numbers_from : List Ticket → ℕ → ℕ → List ℕ
numbers_from table zero place = []
numbers_from table (suc steps) place =
    if nat_lt place (length table)
    then (ticket_at table place).number ∷ numbers_from table steps (ticket_at table place).next else []

-- the numbers at each cown, from its first ticket to its last
abbrev pub lists_of : List Ticket → List Ends → List (List ℕ)
lists_of table ends = map (λ e. numbers_from table (length table) e.first) ends

-- ---- what always holds of them

-- the tickets from a place on are a chain, with these places and these numbers
abbrev pub IsChain : List Ticket → ℕ → List ℕ → List ℕ → Type 0
IsChain table first [] [] = first ≡ NONE
IsChain table first [] (number ∷ numbers) = ⊥
IsChain table first (place ∷ places) [] = ⊥
IsChain table first (place ∷ places) (number ∷ numbers) =
    (first ≡ place) × (place < length table) × ((ticket_at table place).number ≡ number)
    × IsChain table (ticket_at table place).next places numbers

-- the last of these places, or the other one if there are none
abbrev pub last_or : ℕ → List ℕ → ℕ
last_or other [] = other
last_or other (place ∷ places) = last_or place places

-- a cown's queue: its first and its last ticket are those of this chain
pub record IsQueue (table : List Ticket) (ends : Ends) (places numbers : List ℕ) : Type 0 where
  pub chain : IsChain table ends.first places numbers
  pub last : ends.last ≡ last_or NONE places

-- the tickets of each cown have the numbers of the cown's list
pub record AreChains (table : List Ticket) (ends : List Ends) (free : List ℕ) (lists : List (List ℕ)) : Type 0 where
  -- the places of each cown's tickets, in order
  pub chains : List (List ℕ)
  pub list_count : length lists ≡ length ends
  pub chain_count : length chains ≡ length ends
  pub each : (cown : ℕ) → IsQueue table (ends_at ends cown) (list_of chains cown) (list_of lists cown)
  -- each place is either in one chain, once, or free
  pub once : (place : ℕ)
      → sum_by (occurrences place) chains + occurrences place free ≡ (if nat_lt place (length table) then 1 else 0)
  pub all : queued_in lists + length free ≡ length table

-- whatever the tickets are linked to stays so after these changes of the table and the free places
abbrev pub KeepsChains : List Ticket → List ℕ → List Ticket → List ℕ → Type 0
KeepsChains table free grown freed =
    (ends : List Ends) (lists : List (List ℕ)) → AreChains table ends free lists → AreChains grown ends freed lists

-- the tickets are linked, no place is the one that means no ticket, and the list of free places has
-- memory for all places
pub record AreTickets (table : List Ticket) (ends : List Ends) (free : List ℕ) (capacity : ℕ) : Type 0 where
  pub linked : AreChains table ends free (lists_of table ends)
  pub fits : length table ≤ NONE
  pub room : length table ≤ capacity
