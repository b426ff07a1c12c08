-- A bank's rows listed in opening order, and their total.
use Rattle.std.specs.Prelude.{ℕ, ℤ, pos, ◌+ℤ◌, List, [], ◌∷◌, map}
use Rattle.std.specs.Option.{unwrap_or}
use Rattle.std.specs.FinMap.{get}
use Rattle.sb_rows.specs.Customer.{Customer}
use Rattle.sb_rows.specs.Rows.{Rows}

-- a customer with the balances that the rows have for its name
abbrev pub row_of : Rows → List ℕ → Customer
row_of rows name =
    let balances = unwrap_or (get rows name) (pos 0, pos 0) in
    record { name = name; savings = balances.0; checking = balances.1 }

-- the rows of these names, in this order
unfoldable pub rows_in_order : List (List ℕ) → Rows → List Customer
rows_in_order names rows = map (row_of rows) names

-- the sum of all balances of these customers, by recursion, because std's sum takes no negative
-- numbers
abbrev pub total_of : List Customer → ℤ
total_of [] = pos 0
total_of (customer ∷ customers) = (customer.savings +ℤ customer.checking) +ℤ total_of customers
