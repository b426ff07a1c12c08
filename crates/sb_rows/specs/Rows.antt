-- A bank's rows: a finite map from names to pairs of balances, and how it follows from columns and
-- a directory.
use Rattle.std.specs.Prelude.{◌≡◌, ℕ, ℤ, Some, None, List, length, slice_get, slice_set}
use Rattle.std.specs.List.{zip}
use Rattle.std.specs.Ordering.{nat_cmp}
use Rattle.std.specs.Cmp.Lexicographic.{slice_cmp}
use Rattle.std.specs.FinMap.{FinMap, get, insert, from_entries}
use Rattle.sb_rows.specs.Balances.{Balances, IsBalances}
use Rattle.sb_rows.specs.Directory.{IsDirectory, place_of}

-- savings and checking by name, in cents
abbrev pub Rows : Type 0
Rows = FinMap (slice_cmp nat_cmp) (ℤ × ℤ)

-- the rows of these names: each name with the balances at its place
unfoldable pub rows_of : List (List ℕ) → Balances → Rows
rows_of names balances = from_entries (zip names (zip balances.savings balances.checking))

-- the balances after s and c are written at a place
abbrev pub with_row : Balances → ℕ → ℤ → ℤ → Balances
with_row b place s c = record { savings = slice_set b.savings place s; checking = slice_set b.checking place c }

-- the names and the balances are of the same customers
pub record SameCustomers (directory : List (List ℕ)) (b : Balances) : Type 0 where
  pub names : IsDirectory directory
  pub balances : IsBalances b
  pub same_length : length b.savings ≡ length directory

-- a name at a place has the balances there
abbrev pub ReadsByPlace : Type 0
ReadsByPlace = (names : List (List ℕ)) (b : Balances) (name : List ℕ) (place : ℕ) (s c : ℤ) → SameCustomers names b
    → place_of names name ≡ Some place → slice_get b.savings place ≡ Some s → slice_get b.checking place ≡ Some c
    → get (rows_of names b) name ≡ Some (s, c)

-- a name without a place has none
abbrev pub AbsentWithoutPlace : Type 0
AbsentWithoutPlace = (names : List (List ℕ)) (b : Balances) (name : List ℕ) → SameCustomers names b
    → place_of names name ≡ None → get (rows_of names b) name ≡ None

-- writing both balances at the place of a name replaces its row
abbrev pub WritesByPlace : Type 0
WritesByPlace = (names : List (List ℕ)) (b : Balances) (name : List ℕ) (place : ℕ) (s c : ℤ) → SameCustomers names b
    → place_of names name ≡ Some place
    → rows_of names (with_row b place s c) ≡ insert (rows_of names b) name (s, c)
