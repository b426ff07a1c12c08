use Rattle.std.proofs.Common.{◌≡◌, ◌++◌, map, drop}
use Rattle.sb_rows.specs.Customer.{customers_of}
use Rattle.sb_rows.specs.Opening.{customer_line}
use Rattle.sb_rows.specs.Text.{unlines}
use Rattle.sb_text.proofs.listing.list_customers.Given as goal

-- what is written and what is left to write make up all
abbrev pub invariant-loop-place : goal.invariant-loop-place
invariant-loop-place l =
    l.out.items ++ unlines (map customer_line (drop l.place (customers_of l.directory l.columns)))
    ≡ l.fn.out.items ++ unlines (map customer_line (customers_of l.directory l.columns))
