-- What calls may add to a bank's total.
use Rattle.std.specs.Prelude.{ℕ, ◌*◌, ℤ, pos, neg_ℤ, ◌≤ℤ◌}
use Rattle.sb_amount.specs.Limit.{IsWithinLimit}
use Rattle.sb_calls.specs.declared.call.Call.{Call}
use Rattle.sb_calls.specs.declared.call.Call.TheVariants.{Balance, DepositChecking, TransactSavings, Amalgamate, WriteCheck, SendPayment}

-- the number is within what n calls may add: each at most the limit and the penalty, up or down
pub record IsPossibleNet (n : ℕ) (cents : ℤ) : Type 0 where
  pub at_least : neg_ℤ (pos (n * 1_000_000_000_100)) ≤ℤ cents
  pub at_most : cents ≤ℤ pos (n * 1_000_000_000_100)

-- the amount of a call, if it has one, is within the limit
abbrev pub HasAmountWithin : Call → Type 0
HasAmountWithin (Balance name) = Unit {0}
HasAmountWithin (DepositChecking name amount) = IsWithinLimit amount
HasAmountWithin (TransactSavings name amount) = IsWithinLimit amount
HasAmountWithin (Amalgamate from to) = Unit {0}
HasAmountWithin (WriteCheck name amount) = IsWithinLimit amount
HasAmountWithin (SendPayment from to amount) = IsWithinLimit amount
