-- The customers of a bank, as an opening text gives them.
use Rattle.std.specs.Prelude.{ℕ, ℤ, List, map}
use Rattle.std.specs.List.{zip}
use Rattle.sb_rows.specs.Balances.{Balances, IsBalances}
use Rattle.sb_rows.specs.Directory.{IsDirectory}

-- a customer's name and balances
pub record Customer : Type 0 where
  pub name : List ℕ
  pub savings : ℤ
  pub checking : ℤ

-- the names of customers, by place
abbrev pub names_of : List Customer → List (List ℕ)
names_of customers = map (λ c. c.name) customers

-- the balances of customers, by place
abbrev pub balances_of : List Customer → Balances
balances_of customers = record { savings = map (λ c. c.savings) customers; checking = map (λ c. c.checking) customers }

-- the customers that have these names and balances, by place
abbrev pub customers_of : List (List ℕ) → Balances → List Customer
customers_of names balances =
    map (λ e. record { name = e.0; savings = e.1.0; checking = e.1.1 })
    (zip names (zip balances.savings balances.checking))

-- the customers that a bank may have: valid names, all different, at most 65,536; balances in their
-- ranges
pub record IsBank (customers : List Customer) : Type 0 where
  pub names : IsDirectory (names_of customers)
  pub balances : IsBalances (balances_of customers)
