-- What each procedure does to the rows, and its reply (SmallBank, ICDE 2008). The exact effects are
-- this project's, and so is the payment. The first case that holds counts, in the order given. A
-- refusal leaves the rows.
use Rattle.std.specs.Prelude.{ℕ, ℤ, pos, neg_ℤ, ◌+ℤ◌, ◌-ℤ◌, int_lt, Bool, ◌||◌, if◌then◌else◌, Option, Some, None, List}
use Rattle.std.specs.FinMap.{get, insert}
use Rattle.std.specs.Str.{bytes_eq}
use Rattle.sb_amount.specs.declared.cents.TheConstants.{LIMIT}
use Rattle.sb_rows.specs.Rows.{Rows}
use Rattle.sb_calls.specs.declared.call.Call.{Call}
use Rattle.sb_calls.specs.declared.call.Call.TheVariants.{Balance, DepositChecking, TransactSavings, Amalgamate, WriteCheck, SendPayment}
use Rattle.sb_calls.specs.declared.reply.Reply.{Reply}
use Rattle.sb_calls.specs.declared.reply.Reply.TheVariants.{Shown, Done, Penalised, NoCustomer, SameCustomer, Negative, WouldOverdraw, OverLimit}

-- the result of a call: the rows after it, and the reply to it
pub record CallResult : Type 0 where
  pub rows : Rows
  pub reply : Reply

-- the result for a customer with these balances, or NoCustomer if there is none
abbrev pub with_balances : Rows → (ℤ → ℤ → CallResult) → Option (ℤ × ℤ) → CallResult
with_balances rows result None = record { rows = rows; reply = NoCustomer }
with_balances rows result (Some balances) = result balances.0 balances.1

-- the result for two customers with these balances, NoCustomer if one is missing, or SameCustomer if
-- they are the same
abbrev pub with_both_balances : Rows → (ℤ → ℤ → ℤ → ℤ → CallResult)
    → Bool → Option (ℤ × ℤ) → Option (ℤ × ℤ) → CallResult
with_both_balances rows result are_same from to =
    with_balances rows (λ savings checking. with_balances rows (λ savings_to checking_to.
    if are_same then record { rows = rows; reply = SameCustomer }
    else result savings checking savings_to checking_to) to) from

-- shows the sum of savings and checking
abbrev pub balance_result : Rows → ℤ → ℤ → CallResult
balance_result rows savings checking = record { rows = rows; reply = Shown (savings +ℤ checking) }

abbrev pub balance : List ℕ → Rows → CallResult
balance name rows = with_balances rows (balance_result rows) (get rows name)

-- checking grows by the amount
abbrev pub deposit_result : List ℕ → ℤ → Rows → ℤ → ℤ → CallResult
deposit_result name amount rows savings checking =
    if int_lt amount (pos 0) then record { rows = rows; reply = Negative }
    else if int_lt LIMIT (checking +ℤ amount) then record { rows = rows; reply = OverLimit }
    else record { rows = insert rows name (savings, checking +ℤ amount); reply = Done }

abbrev pub deposit_checking : List ℕ → ℤ → Rows → CallResult
deposit_checking name amount rows = with_balances rows (deposit_result name amount rows) (get rows name)

-- savings grow by the amount, which may be negative
abbrev pub savings_result : List ℕ → ℤ → Rows → ℤ → ℤ → CallResult
savings_result name amount rows savings checking =
    if int_lt (savings +ℤ amount) (pos 0) then record { rows = rows; reply = WouldOverdraw }
    else if int_lt LIMIT (savings +ℤ amount) then record { rows = rows; reply = OverLimit }
    else record { rows = insert rows name (savings +ℤ amount, checking); reply = Done }

abbrev pub transact_savings : List ℕ → ℤ → Rows → CallResult
transact_savings name amount rows = with_balances rows (savings_result name amount rows) (get rows name)

-- the taker's balance would pass the limit, if it were this sum
abbrev pub takes_too_much : ℤ → Bool
takes_too_much sum = int_lt LIMIT sum || int_lt sum (neg_ℤ LIMIT)

-- moves both balances of the first customer to the checking of the second
abbrev pub amalgamation_result : List ℕ → List ℕ → Rows → ℤ → ℤ → ℤ → ℤ → CallResult
amalgamation_result from to rows savings checking savings_to checking_to =
    let sum = (checking_to +ℤ savings) +ℤ checking in
    if takes_too_much sum then record { rows = rows; reply = OverLimit }
    else record { rows = insert (insert rows from (pos 0, pos 0)) to (savings_to, sum); reply = Done }

abbrev pub amalgamate : List ℕ → List ℕ → Rows → CallResult
amalgamate from to rows =
    with_both_balances rows (amalgamation_result from to rows) (bytes_eq from to) (get rows from) (get rows to)

-- the cost of a check: its amount, plus a penalty of 100 cents if savings and checking together are
-- below it
abbrev pub check_cost : ℤ → ℤ → ℤ → ℤ
check_cost savings checking amount = if int_lt (savings +ℤ checking) amount then amount +ℤ pos 100 else amount

-- checking falls by the cost of the check
abbrev pub check_result : List ℕ → ℤ → Rows → ℤ → ℤ → CallResult
check_result name amount rows savings checking =
    let left = checking -ℤ check_cost savings checking amount in
    if int_lt amount (pos 0) then record { rows = rows; reply = Negative }
    else if int_lt left (neg_ℤ LIMIT) then record { rows = rows; reply = OverLimit }
    else record {
      rows = insert rows name (savings, left);
      reply = if int_lt (savings +ℤ checking) amount then Penalised else Done;
    }

abbrev pub write_check : List ℕ → ℤ → Rows → CallResult
write_check name amount rows = with_balances rows (check_result name amount rows) (get rows name)

-- moves the amount from the checking of the first customer to that of the second
abbrev pub payment_result : List ℕ → List ℕ → ℤ → Rows → ℤ → ℤ → ℤ → ℤ → CallResult
payment_result from to amount rows savings checking savings_to checking_to =
    if int_lt amount (pos 0) then record { rows = rows; reply = Negative }
    else if int_lt checking amount then record { rows = rows; reply = WouldOverdraw }
    else if int_lt LIMIT (checking_to +ℤ amount) then record { rows = rows; reply = OverLimit }
    else record {
      rows = insert (insert rows from (savings, checking -ℤ amount)) to (savings_to, checking_to +ℤ amount);
      reply = Done;
    }

abbrev pub send_payment : List ℕ → List ℕ → ℤ → Rows → CallResult
send_payment from to amount rows =
    with_both_balances rows (payment_result from to amount rows) (bytes_eq from to) (get rows from) (get rows to)

-- the procedure that a call names
abbrev pub procedure : Call → Rows → CallResult
procedure (Balance name) rows = balance name rows
procedure (DepositChecking name amount) rows = deposit_checking name amount rows
procedure (TransactSavings name amount) rows = transact_savings name amount rows
procedure (Amalgamate from to) rows = amalgamate from to rows
procedure (WriteCheck name amount) rows = write_check name amount rows
procedure (SendPayment from to amount) rows = send_payment from to amount rows
