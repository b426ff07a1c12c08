-- The effect of a payment from one customer to another, in terms of the columns.
use Rattle.std.proofs.Common.{◌≡◌, ◌≢◌, ℕ, ℤ, pos, ◌+ℤ◌, ◌-ℤ◌, ◌≤ℤ◌, true, false, List, refl, sym, arith}
use Rattle.std.specs.Prelude.{int_lt}
use Rattle.std.proofs.lemmas.Int.{ints}
use Rattle.sb_amount.specs.Limit.{IsWithinLimit}
use Rattle.sb_amount.specs.declared.cents.TheConstants.{LIMIT}
use Rattle.sb_rows.specs.Balances.{Balances}
use Rattle.sb_rows.specs.Rows.{SameCustomers}
use Rattle.sb_calls.proofs.Amalgamation.{different_names}
use Rattle.sb_calls.proofs.CustomerRows.{HasRow, HasRow-other_checking, with_checking, row_is, checking_within, rows_of-with_checking, SameCustomers-with_checking}
use Rattle.sb_calls.specs.FollowsProcedure.{FollowsProcedure}
use Rattle.sb_calls.specs.declared.call.Call.TheVariants.{SendPayment}
use Rattle.sb_calls.specs.declared.reply.Reply.TheVariants.{Done, Negative, WouldOverdraw, OverLimit}

-- what is left and what is received are within the limit
left_within : (c amount : ℤ) → IsWithinLimit c → int_lt amount (pos 0) ≡ false → int_lt c amount ≡ false → IsWithinLimit (c -ℤ amount)
left_within c amount within ge enough =
    let not_negative : pos 0 ≤ℤ amount = grind (arith, ints, ge) in
    let covered : amount ≤ℤ c = grind (arith, ints, enough) in
    record { at_least = omega (arith, ints, covered); at_most = omega (arith, ints, not_negative, within.at_most) }

received_within : (c amount : ℤ) → IsWithinLimit c → int_lt amount (pos 0) ≡ false → int_lt LIMIT (c +ℤ amount) ≡ false → IsWithinLimit (c +ℤ amount)
received_within c amount within ge le = record { at_least = grind (arith, ints, ge, within.at_least); at_most = grind (arith, ints, le) }

-- the balances after a payment
abbrev pub balances_after_payment : Balances → ℕ → ℕ → ℤ → ℤ → Balances
balances_after_payment b p q left received = with_checking (with_checking b p left) q received

module _ {directory : List (List ℕ)} {b : Balances} {from to : List ℕ} {p q : ℕ} {s c s_to c_to : ℤ} (payer : HasRow directory b from p s c)
    (payee : HasRow directory b to q s_to c_to) (differs : p ≢ q) (amount : ℤ) where
  pub performs_payment_negative : int_lt amount (pos 0) ≡ true → FollowsProcedure directory (SendPayment from to amount) b b Negative
  performs_payment_negative below =
      let row_from = row_is payer in
      let row_to = row_is payee in
      let names = different_names directory from to p q payer.found payee.found differs in
      record { rows = rw (row_from, row_to, names, below) refl; reply = rw (row_from, row_to, names, below) refl; customers = payer.same }

  pub performs_payment_overdraft : int_lt amount (pos 0) ≡ false → int_lt c amount ≡ true
      → FollowsProcedure directory (SendPayment from to amount) b b WouldOverdraw
  performs_payment_overdraft ge poor =
      let row_from = row_is payer in
      let row_to = row_is payee in
      let names = different_names directory from to p q payer.found payee.found differs in
      record { rows = rw (row_from, row_to, names, ge, poor) refl; reply = rw (row_from, row_to, names, ge, poor) refl; customers = payer.same }

  pub performs_payment_over_limit : int_lt amount (pos 0) ≡ false → int_lt c amount ≡ false → int_lt LIMIT (c_to +ℤ amount) ≡ true
      → FollowsProcedure directory (SendPayment from to amount) b b OverLimit
  performs_payment_over_limit ge enough past =
      let row_from = row_is payer in
      let row_to = row_is payee in
      let names = different_names directory from to p q payer.found payee.found differs in
      record { rows = rw (row_from, row_to, names, ge, enough, past) refl; reply = rw (row_from, row_to, names, ge, enough, past) refl; customers = payer.same }

  -- a payment that is executed
  pub performs_payment : int_lt amount (pos 0) ≡ false → int_lt c amount ≡ false → int_lt LIMIT (c_to +ℤ amount) ≡ false
      → FollowsProcedure directory (SendPayment from to amount) b (balances_after_payment b p q (c -ℤ amount) (c_to +ℤ amount)) Done
  performs_payment ge enough le =
      let row_from = row_is payer in
      let row_to = row_is payee in
      let names = different_names directory from to p q payer.found payee.found differs in
      let taken : SameCustomers directory (with_checking b p (c -ℤ amount)) =
      SameCustomers-with_checking payer (c -ℤ amount) (left_within c amount (checking_within payer) ge enough) in
      let kept = HasRow-other_checking directory b to p q s_to c_to (c -ℤ amount) payee (λ e. differs (sym e)) taken in
      record {
        rows = rw (row_from, row_to, names, ge, enough, le, ← rows_of-with_checking payer (c -ℤ amount)) (rows_of-with_checking kept (c_to +ℤ amount));
        reply = rw (row_from, row_to, names, ge, enough, le) refl;
        customers = SameCustomers-with_checking kept (c_to +ℤ amount) (received_within c_to amount (checking_within payee) ge le);
      }
