-- The numbers that wait at each cown.
use Rattle.std.specs.Prelude.{◌≡◌, ℕ, ◌<◌, if◌then◌else◌, Option, Some, List, [], ◌∷◌, ◌++◌, length, map, sum, get_or, drop, slice_get, filter_map}
use Rattle.sb_calls.specs.SerialRun.{is_among}

-- the queues as callers see them: a list of numbers for each cown, in order; the cowns with room
-- for one more; and the number of tickets that there are places for
pub record CownQueues : Type 0 where
  pub lists : List (List ℕ)
  pub reserved : List ℕ
  pub places : ℕ

-- the count of the numbers in all lists together
abbrev pub queued_in : List (List ℕ) → ℕ
queued_in lists = sum (map length lists)

-- the list of a cown
abbrev pub list_of : List (List ℕ) → ℕ → List ℕ
list_of lists cown = get_or lists cown []

-- the first number of a cown's list, if any
abbrev pub front_of : List (List ℕ) → ℕ → Option ℕ
front_of lists cown = slice_get (list_of lists cown) 0

-- the number is appended to the lists of these cowns; all other lists stay
pub record Appends (number : ℕ) (cowns : List ℕ) (old new : List (List ℕ)) : Type 0 where
  pub cown_count : length new ≡ length old
  pub each : (cown : ℕ) → cown < length old
      → list_of new cown ≡ (if is_among cown cowns then list_of old cown ++ number ∷ [] else list_of old cown)

-- the lists of these cowns begin with the number
abbrev pub IsInFront : ℕ → List ℕ → List (List ℕ) → Type 0
IsInFront number [] lists = Unit {0}
IsInFront number (cown ∷ cowns) lists = (front_of lists cown ≡ Some number) × IsInFront number cowns lists

-- the first number is removed from the lists of these cowns; all other lists stay
pub record Releases (cowns : List ℕ) (old new : List (List ℕ)) : Type 0 where
  pub cown_count : length new ≡ length old
  pub each : (cown : ℕ) → cown < length old
      → list_of new cown ≡ (if is_among cown cowns then drop 1 (list_of old cown) else list_of old cown)

-- the first numbers of these cowns, in the order of the cowns; a cown without one is skipped
abbrev pub fronts_of : List (List ℕ) → List ℕ → List ℕ
fronts_of lists cowns = filter_map (front_of lists) cowns
