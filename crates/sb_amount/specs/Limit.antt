-- The range of amounts and balances.
use Rattle.std.specs.Prelude.{ℤ, neg_ℤ, ◌≤ℤ◌}
use Rattle.sb_amount.specs.declared.cents.TheConstants.{LIMIT}

-- from -LIMIT to LIMIT
pub record IsWithinLimit (v : ℤ) : Type 0 where
  pub at_least : neg_ℤ LIMIT ≤ℤ v
  pub at_most : v ≤ℤ LIMIT
