-- Numbers in front of queues.
use Rattle.std.specs.Prelude.{ℕ, ◌==◌, Bool, false, not, List, [], ◌∷◌, slice_get, is_some, count_by}
use Rattle.cown_queue.specs.Queues.{front_of, list_of}
use Rattle.cown_board.specs.Readiness.{touched_by}

-- the number is the first of a list
abbrev pub is_first : ℕ → List ℕ → Bool
is_first number [] = false
is_first number (n ∷ rest) = n == number

-- at how many of these cowns the number isn't in front
abbrev pub behind_at : ℕ → List (List ℕ) → List ℕ → ℕ
behind_at number lists cowns = count_by (λ cown. not (is_first number (list_of lists cown))) cowns

-- at how many of its cowns the behaviour at a position isn't in front
abbrev pub behind_of : {B : Type 0} → (B → List ℕ) → List B → List (List ℕ) → ℕ → ℕ
behind_of touches log lists position = behind_at position lists (touched_by touches (slice_get log position))

-- a cown's queue isn't empty
abbrev pub is_occupied : List (List ℕ) → ℕ → Bool
is_occupied lists cown = is_some (front_of lists cown)
