-- The rows of a bank as text.
use Rattle.std.specs.Prelude.{ℕ, List, [], ◌∷◌, ◌++◌, map, codes}
use Rattle.sb_amount.specs.Money.{money}
use Rattle.sb_rows.specs.Listing.{rows_in_order, total_of}
use Rattle.sb_rows.specs.Opening.{customer_line}
use Rattle.sb_rows.specs.Rows.{Rows}

-- a line NAME SAVINGS CHECKING for each customer in opening order, then the line of the total
abbrev pub row_lines : List (List ℕ) → Rows → List (List ℕ)
row_lines names rows = map customer_line (rows_in_order names rows) ++
    (codes "total " ++ money (total_of (rows_in_order names rows))) ∷ []
