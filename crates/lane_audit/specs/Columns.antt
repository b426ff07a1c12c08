-- Sums, differences and ranges of columns of integers.
use Rattle.std.specs.Prelude.{ℕ, ℤ, pos, ◌+ℤ◌, int_lt, Bool, ◌||◌, not, Option, List, [], ◌∷◌, count_by, position}
use Rattle.std.specs.List.{zip}
use Rattle.std.specs.Ordering.{int_eq}

-- the sum of a column's values, by recursion, because std's sum takes no negative numbers
abbrev pub total : List ℤ → ℤ
total [] = pos 0
total (value ∷ values) = value +ℤ total values

-- the least place at which two columns differ, if any
abbrev pub first_difference : List ℤ → List ℤ → Option ℕ
first_difference left right = position (λ p. not (int_eq p.0 p.1)) (zip left right)

-- the value is below low or above high
abbrev pub is_outside : ℤ → ℤ → ℤ → Bool
is_outside low high value = int_lt value low || int_lt high value

-- the least place whose value is outside the range, if any
abbrev pub first_outside : List ℤ → ℤ → ℤ → Option ℕ
first_outside values low high = position (is_outside low high) values

-- the number of values below low
abbrev pub count_below : List ℤ → ℤ → ℕ
count_below values low = count_by (λ value. int_lt value low) values
