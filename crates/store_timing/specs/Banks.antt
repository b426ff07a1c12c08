-- The banks that are measured.
use Rattle.std.specs.Prelude.{◌≡◌, ℕ, zero, suc, Ok, List, [], ◌++◌, length, codes, decimal}
use Rattle.sb_rows.specs.Balances.{Balances}
use Rattle.sb_rows.specs.Opening.{opening_of}

-- a customer's line: the letter c, the place, and these balances
abbrev pub generated_line : List ℕ → ℕ → List ℕ
generated_line balances place = codes "c" ++ decimal place ++ codes " " ++ balances ++ codes "\n"

-- the lines of the places below a number
abbrev pub generated_lines : List ℕ → ℕ → List ℕ
generated_lines balances zero = []
generated_lines balances (suc place) = generated_lines balances place ++ generated_line balances place

-- this many customers have these names and balances, as the opening text of their lines says
pub record IsBankOf (customers : ℕ) (balances : List ℕ) (names : List (List ℕ)) (columns : Balances) : Type 0 where
  pub count : length names ≡ customers
  pub taken : ℕ
  pub opens : opening_of (generated_lines balances customers ++ codes "begin\n")
      ≡ Ok (record { names = names; balances = columns; consumed = taken })
