-- What the least place of a difference says about two columns.
use Rattle.std.specs.Prelude.{◌≡◌, ◌≢◌, ℕ, ℤ, Some, None, List, length, take, slice_get}
use Rattle.lane_audit.specs.Columns.{first_difference}

-- columns of one length are the same below the place, and differ at it
abbrev pub LeastDifference : Type 0
LeastDifference = (left right : List ℤ) (place : ℕ) → length left ≡ length right
    → first_difference left right ≡ Some place
    → (take place left ≡ take place right) × (slice_get left place ≢ slice_get right place)

-- if there is no such place, the columns are equal
abbrev pub EqualWithoutDifference : Type 0
EqualWithoutDifference = (left right : List ℤ) → length left ≡ length right
    → first_difference left right ≡ None → left ≡ right
