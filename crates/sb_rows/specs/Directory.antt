-- The names of a bank's customers, in opening order.
use Rattle.std.specs.Prelude.{ℕ, ◌≤◌, ◌≢◌, Option, List, length, position}
use Rattle.std.specs.List.{All, AllPairs}
use Rattle.std.specs.Str.{bytes_eq}
use Rattle.sb_rows.specs.Name.{IsName}
use Rattle.sb_rows.specs.declared.columns.TheConstants.{CUSTOMERS}

-- the names of a directory: valid, all different, and at most as many as a bank may have
pub record IsDirectory (names : List (List ℕ)) : Type 0 where
  pub limit : length names ≤ CUSTOMERS
  pub valid : All IsName names
  pub different : AllPairs (λ a b. a ≢ b) names

-- the place of a name, if it has one
abbrev pub place_of : List (List ℕ) → List ℕ → Option ℕ
place_of names name = position (bytes_eq name) names
