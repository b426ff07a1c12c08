-- The effects of the procedures of one customer, in terms of the columns.
use Rattle.std.proofs.Common.{◌≡◌, ℕ, ℤ, pos, neg_ℤ, ◌+ℤ◌, ◌-ℤ◌, ◌≤ℤ◌, Bool, true, false, cond, List, refl, arith}
use Rattle.std.specs.Prelude.{int_lt}
use Rattle.std.proofs.lemmas.Int.{ints, by_lt_z}
use Rattle.sb_amount.specs.Limit.{IsWithinLimit}
use Rattle.sb_amount.specs.declared.cents.TheConstants.{LIMIT}
use Rattle.sb_rows.specs.Balances.{Balances}
use Rattle.sb_calls.proofs.CustomerRows.{HasRow, with_savings, with_checking, row_is, checking_within, rows_of-with_savings, rows_of-with_checking, SameCustomers-with_savings, SameCustomers-with_checking}
use Rattle.sb_calls.specs.FollowsProcedure.{FollowsProcedure}
use Rattle.sb_calls.specs.Procedures.{check_cost}
use Rattle.sb_calls.specs.declared.call.Call.TheVariants.{Balance, DepositChecking, TransactSavings, WriteCheck}
use Rattle.sb_calls.specs.declared.reply.Reply.TheVariants.{Shown, Done, Penalised, Negative, WouldOverdraw, OverLimit}

-- a balance within the limit can pass it only upwards, by an amount that isn't negative
past_limit : (c amount : ℤ) → IsWithinLimit c → int_lt amount (pos 0) ≡ false → ¬ IsWithinLimit (c +ℤ amount) → int_lt LIMIT (c +ℤ amount) ≡ true
past_limit c amount fits ge past =
    by_lt_z LIMIT (c +ℤ amount) (λ lt. grind (arith, ints, lt)) (λ le. absurd (past (record { at_least = omega (arith, ints, fits.at_least); at_most = le })))

-- a number that isn't negative can pass it only upwards
pub past_limit_upwards : (v : ℤ) → int_lt v (pos 0) ≡ false → ¬ IsWithinLimit v → int_lt LIMIT v ≡ true
past_limit_upwards v ge past = by_lt_z LIMIT v (λ lt. grind (arith, ints, lt)) (λ le. absurd (past (record { at_least = grind (arith, ints); at_most = le })))

-- a check costs at least its amount
cost_of_amount : (s c amount : ℤ) → amount ≤ℤ check_cost s c amount
cost_of_amount s c amount = by (int_lt (s +ℤ c) amount)
  where
    by : (overdrawn : Bool) → amount ≤ℤ cond overdrawn (amount +ℤ pos 100) amount
    by true = omega (arith, ints)
    by false = omega (arith, ints)

-- so by a check a balance within the limit can pass it only downwards
pub past_limit_downwards : (s c amount : ℤ) → IsWithinLimit c → int_lt amount (pos 0) ≡ false → ¬ IsWithinLimit (c -ℤ check_cost s c amount)
    → int_lt (c -ℤ check_cost s c amount) (neg_ℤ LIMIT) ≡ true
past_limit_downwards s c amount fits ge past = from (check_cost s c amount) (cost_of_amount s c amount) past
  where
    from : (cost : ℤ) → amount ≤ℤ cost → ¬ IsWithinLimit (c -ℤ cost) → int_lt (c -ℤ cost) (neg_ℤ LIMIT) ≡ true
    from cost more out =
        let not_negative : pos 0 ≤ℤ amount = grind (arith, ints) in
        by_lt_z (c -ℤ cost) (neg_ℤ LIMIT) (λ lt. grind (arith, ints, lt))
        (λ le. absurd (out (record { at_least = le; at_most = omega (arith, ints, fits.at_most) })))

module _ {directory : List (List ℕ)} {b : Balances} {name : List ℕ} {place : ℕ} {s c : ℤ} (h : HasRow directory b name place s c) where
  -- a balance that is shown
  pub performs_balance : FollowsProcedure directory (Balance name) b b (Shown (s +ℤ c))
  performs_balance = let row = row_is h in record { rows = rw row refl; reply = rw row refl; customers = h.same }

  -- ---- deposits

  -- a deposit below 0
  pub performs_negative : (amount : ℤ) → int_lt amount (pos 0) ≡ true → FollowsProcedure directory (DepositChecking name amount) b b Negative
  performs_negative amount lt = let row = row_is h in record { rows = rw (row, lt) refl; reply = rw (row, lt) refl; customers = h.same }

  -- a deposit that would pass the limit
  pub performs_over_limit : (amount : ℤ) → int_lt amount (pos 0) ≡ false → ¬ IsWithinLimit (c +ℤ amount)
      → FollowsProcedure directory (DepositChecking name amount) b b OverLimit
  performs_over_limit amount ge past =
      let row = row_is h in
      let lt = past_limit c amount (checking_within h) ge past in
      record { rows = rw (row, ge, lt) refl; reply = rw (row, ge, lt) refl; customers = h.same }

  -- a deposit that is executed
  pub performs_deposit : (amount : ℤ) → int_lt amount (pos 0) ≡ false → IsWithinLimit (c +ℤ amount)
      → FollowsProcedure directory (DepositChecking name amount) b (with_checking b place (c +ℤ amount)) Done
  performs_deposit amount ge fits =
      let row = row_is h in
      let le : int_lt LIMIT (c +ℤ amount) ≡ false = grind (arith, ints, fits.at_most) in
      record {
        rows = rw (row, ge, le) (rows_of-with_checking h (c +ℤ amount));
        reply = rw (row, ge, le) refl;
        customers = SameCustomers-with_checking h (c +ℤ amount) fits;
      }

  -- ---- changes of savings

  -- a change of savings that would overdraw them
  pub performs_overdraft : (amount : ℤ) → int_lt (s +ℤ amount) (pos 0) ≡ true → FollowsProcedure directory (TransactSavings name amount) b b WouldOverdraw
  performs_overdraft amount lt = let row = row_is h in record { rows = rw (row, lt) refl; reply = rw (row, lt) refl; customers = h.same }

  -- a change of savings that would pass the limit
  pub performs_savings_over_limit : (amount : ℤ) → int_lt (s +ℤ amount) (pos 0) ≡ false → ¬ IsWithinLimit (s +ℤ amount)
      → FollowsProcedure directory (TransactSavings name amount) b b OverLimit
  performs_savings_over_limit amount ge past =
      let row = row_is h in
      let lt = past_limit_upwards (s +ℤ amount) ge past in
      record { rows = rw (row, ge, lt) refl; reply = rw (row, ge, lt) refl; customers = h.same }

  -- a change of savings that is executed
  pub performs_savings : (amount : ℤ) → int_lt (s +ℤ amount) (pos 0) ≡ false → IsWithinLimit (s +ℤ amount)
      → FollowsProcedure directory (TransactSavings name amount) b (with_savings b place (s +ℤ amount)) Done
  performs_savings amount ge fits =
      let row = row_is h in
      let le : int_lt LIMIT (s +ℤ amount) ≡ false = grind (arith, ints, fits.at_most) in
      record {
        rows = rw (row, ge, le) (rows_of-with_savings h (s +ℤ amount));
        reply = rw (row, ge, le) refl;
        customers = SameCustomers-with_savings h (s +ℤ amount) (record { not_negative = grind (arith, ints); within = fits });
      }

  -- ---- checks

  -- a check below 0
  pub performs_check_negative : (amount : ℤ) → int_lt amount (pos 0) ≡ true → FollowsProcedure directory (WriteCheck name amount) b b Negative
  performs_check_negative amount lt = let row = row_is h in record { rows = rw (row, lt) refl; reply = rw (row, lt) refl; customers = h.same }

  -- a check that would pass the limit
  pub performs_check_over_limit : (amount : ℤ) → int_lt amount (pos 0) ≡ false → ¬ IsWithinLimit (c -ℤ check_cost s c amount)
      → FollowsProcedure directory (WriteCheck name amount) b b OverLimit
  performs_check_over_limit amount ge past =
      let row = row_is h in
      let lt = past_limit_downwards s c amount (checking_within h) ge past in
      record { rows = rw (row, ge, lt) refl; reply = rw (row, ge, lt) refl; customers = h.same }

  -- a check that is paid
  pub performs_check : (amount : ℤ) → int_lt amount (pos 0) ≡ false → IsWithinLimit (c -ℤ check_cost s c amount)
      → FollowsProcedure directory (WriteCheck name amount) b (with_checking b place (c -ℤ check_cost s c amount))
      (cond (int_lt (s +ℤ c) amount) Penalised Done)
  performs_check amount ge fits =
      let row = row_is h in
      let le : int_lt (c -ℤ check_cost s c amount) (neg_ℤ LIMIT) ≡ false = grind (arith, ints, fits.at_least) in
      record {
        rows = rw (row, ge, le) (rows_of-with_checking h (c -ℤ check_cost s c amount));
        reply = rw (row, ge, le) refl;
        customers = SameCustomers-with_checking h (c -ℤ check_cost s c amount) fits;
      }
