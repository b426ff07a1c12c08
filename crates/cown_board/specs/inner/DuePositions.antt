-- Which waiting behaviours are in front at all their cowns, by the number of cowns at which each is
-- behind.
use Rattle.std.specs.Prelude.{◌≡◌, ℕ, ◌==◌, ◌&&◌, Bool, List, get_or}
use Rattle.cown_board.specs.Positions.{positions}

-- the behaviour at a position is due: it waits, and is behind at no cown
abbrev pub is_due : (ℕ → Bool) → List ℕ → ℕ → Bool
is_due waits behind position = waits position && (get_or behind position 0 == 0)

-- the list has the positions below a bound that are due
abbrev pub AreDue : (ℕ → Bool) → List ℕ → ℕ → List ℕ → Type 0
AreDue waits behind bound list = list ≡ positions (is_due waits behind) bound
