-- The balances of a bank's customers, by place.
use Rattle.std.specs.Prelude.{◌≡◌, ◌≤◌, ℤ, pos, ◌≤ℤ◌, List, length}
use Rattle.std.specs.List.{All}
use Rattle.sb_amount.specs.Limit.{IsWithinLimit}
use Rattle.sb_rows.specs.declared.columns.TheConstants.{CUSTOMERS}

-- the balances of customers: savings and checking by place, in cents
pub record Balances : Type 0 where
  pub savings : List ℤ
  pub checking : List ℤ

-- a savings balance: not negative, and within the limit
pub record IsSavings (v : ℤ) : Type 0 where
  pub not_negative : pos 0 ≤ℤ v
  pub within : IsWithinLimit v

-- both columns have one length, and each balance is in its range
pub record IsBalances (b : Balances) : Type 0 where
  pub same : length b.savings ≡ length b.checking
  pub limit : length b.savings ≤ CUSTOMERS
  pub savings : All IsSavings b.savings
  pub checking : All IsWithinLimit b.checking
