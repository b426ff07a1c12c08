-- What each procedure adds to the bank's total.
use Rattle.std.proofs.Common.{◌≡◌, ℕ, zero, suc, ℤ, pos, neg_ℤ, ◌+ℤ◌, ◌-ℤ◌, Bool, true, false, cond, Option, Some, None, List, [], ◌∷◌, refl, sym, ap, ◌∙◌, arith}
use Rattle.std.specs.Prelude.{int_lt}
use Rattle.std.specs.FinMap.{get, insert}
use Rattle.std.specs.Str.{bytes_eq}
use Rattle.std.proofs.lemmas.Int.{ints}
use Rattle.sb_amount.specs.declared.cents.TheConstants.{LIMIT}
use Rattle.sb_rows.specs.Listing.{rows_in_order, total_of}
use Rattle.sb_rows.specs.Rows.{Rows}
use Rattle.sb_calls.proofs.RowTotals.{get-insert_name, other_name, total_of-insert, HasNames-insert}
use Rattle.sb_calls.specs.Net.{HasNames, TotalByNet, net_if_done, net_if_paid, net_of}
use Rattle.sb_calls.specs.Procedures.{CallResult, with_balances, takes_too_much, check_cost, procedure}
use Rattle.sb_calls.specs.declared.call.Call.{Call}
use Rattle.sb_calls.specs.declared.call.Call.TheVariants.{Balance, DepositChecking, TransactSavings, Amalgamate, WriteCheck, SendPayment}
use Rattle.sb_calls.specs.declared.reply.Reply.{Reply}
use Rattle.sb_calls.specs.declared.reply.Reply.TheVariants.{Shown, Done, Penalised, NoCustomer, SameCustomer, Negative, WouldOverdraw, OverLimit}

-- a result keeps the names, and its total is the old one plus the net of its reply
pub record AddsNet (directory : List (List ℕ)) (rows : Rows) (net : Reply → ℤ) (result : CallResult) : Type 0 where
  pub names : HasNames directory result.rows
  pub total : total_of (rows_in_order directory result.rows) ≡ total_of (rows_in_order directory rows) +ℤ net result.reply

-- adding 0 changes nothing
plus_nothing : (total net : ℤ) → net ≡ pos 0 → total ≡ total +ℤ net
plus_nothing total net e = omega (arith, ints, e)

module _ {directory : List (List ℕ)} {rows : Rows} (net : Reply → ℤ) (h : HasNames directory rows) where
  -- a result that leaves the rows, with a reply whose net is 0
  left_as_is : (reply : Reply) → net reply ≡ pos 0 → AddsNet directory rows net (record { rows = rows; reply = reply })
  left_as_is reply none = record { names = h; total = plus_nothing (total_of (rows_in_order directory rows)) (net reply) none }

  -- a result that replaces a row, with a reply whose net is the difference
  replaced : (name : List ℕ) (s c s_new c_new : ℤ) (reply : Reply) → get rows name ≡ Some (s, c) → net reply ≡ (s_new +ℤ c_new) -ℤ (s +ℤ c)
      → AddsNet directory rows net (record { rows = insert rows name (s_new, c_new); reply = reply })
  replaced name s c s_new c_new reply is worth = record {
    names = HasNames-insert name h is (s_new, c_new);
    total = total_of-insert name h is s_new c_new ∙ ap (λ x. total_of (rows_in_order directory rows) +ℤ x) (sym worth);
  }

  -- one of two results
  either_adds : (test : Bool) (first second : CallResult) → AddsNet directory rows net first → (test ≡ false → AddsNet directory rows net second)
      → AddsNet directory rows net (cond test first second)
  either_adds true first second a b = a
  either_adds false first second a b = b refl

  -- a result by the row of a name
  with_balances_adds : (name : List ℕ) (result : ℤ → ℤ → CallResult) → net NoCustomer ≡ pos 0
      → ((s c : ℤ) → get rows name ≡ Some (s, c) → AddsNet directory rows net (result s c))
      → AddsNet directory rows net (with_balances rows result (get rows name))
  with_balances_adds name result none there = by (get rows name) refl
    where
      by : (balances : Option (ℤ × ℤ)) → get rows name ≡ balances → AddsNet directory rows net (with_balances rows result balances)
      by None e = left_as_is NoCustomer none
      by (Some balances) e = there balances.0 balances.1 e

-- what a paid check takes from its row
paid_worth : (s c amount : ℤ) (overdrawn : Bool)
    → net_if_paid amount (cond overdrawn Penalised Done) ≡ (s +ℤ (c -ℤ cond overdrawn (amount +ℤ pos 100) amount)) -ℤ (s +ℤ c)
paid_worth s c amount true = omega (arith, ints)
paid_worth s c amount false = omega (arith, ints)

-- two rows are replaced, and one gains what the other gives, so nothing is added
two_replaced : (directory : List (List ℕ)) (rows : Rows) (from to : List ℕ) (s c s_to c_to s_new c_new received : ℤ) → HasNames directory rows
    → get rows from ≡ Some (s, c) → get rows to ≡ Some (s_to, c_to) → bytes_eq from to ≡ false → (s_new +ℤ c_new) +ℤ received ≡ (s +ℤ c) +ℤ c_to
    → AddsNet directory rows (λ reply. pos 0) (record { rows = insert (insert rows from (s_new, c_new)) to (s_to, received); reply = Done })
two_replaced directory rows from to s c s_to c_to s_new c_new received h is_from is_to differs same =
    let given = HasNames-insert from h is_from (s_new, c_new) in
    let kept : get (insert rows from (s_new, c_new)) to ≡ Some (s_to, c_to) =
    get-insert_name rows from (s_new, c_new) to ∙ ap (λ t. cond t (Some (s_new, c_new)) (get rows to)) (other_name from to differs) ∙ is_to in
    let first = total_of-insert from h is_from s_new c_new in
    let second = total_of-insert to given kept s_to received in
    record {
      names = HasNames-insert to given kept (s_to, received);
      total = rw (second, first) (omega (arith, ints, same));
    }

-- each procedure adds the net change of its call
pub procedure_adds : (directory : List (List ℕ)) (call : Call) (rows : Rows) → HasNames directory rows
    → AddsNet directory rows (net_of call) (procedure call rows)
procedure_adds directory (Balance name) rows h =
    with_balances_adds (net_of (Balance name)) h name _ refl (λ s c is. left_as_is (net_of (Balance name)) h (Shown (s +ℤ c)) refl)
procedure_adds directory (DepositChecking name amount) rows h =
    let net = net_if_done amount in
    with_balances_adds net h name _ refl (λ s c is.
    either_adds net h (int_lt amount (pos 0)) _ _ (left_as_is net h Negative refl) (λ ge.
    either_adds net h (int_lt LIMIT (c +ℤ amount)) _ _ (left_as_is net h OverLimit refl) (λ le.
    replaced net h name s c s (c +ℤ amount) Done is (omega (arith, ints)))))
procedure_adds directory (TransactSavings name amount) rows h =
    let net = net_if_done amount in
    with_balances_adds net h name _ refl (λ s c is.
    either_adds net h (int_lt (s +ℤ amount) (pos 0)) _ _ (left_as_is net h WouldOverdraw refl) (λ ge.
    either_adds net h (int_lt LIMIT (s +ℤ amount)) _ _ (left_as_is net h OverLimit refl) (λ le.
    replaced net h name s c (s +ℤ amount) c Done is (omega (arith, ints)))))
procedure_adds directory (Amalgamate from to) rows h =
    let net = net_of (Amalgamate from to) in
    with_balances_adds net h from _ refl (λ s c is_from. with_balances_adds net h to _ refl (λ s_to c_to is_to.
    either_adds net h (bytes_eq from to) _ _ (left_as_is net h SameCustomer refl) (λ differs.
    either_adds net h (takes_too_much ((c_to +ℤ s) +ℤ c)) _ _ (left_as_is net h OverLimit refl) (λ fits.
    two_replaced directory rows from to s c s_to c_to (pos 0) (pos 0) ((c_to +ℤ s) +ℤ c) h is_from is_to differs (omega (arith, ints))))))
procedure_adds directory (WriteCheck name amount) rows h =
    let net = net_if_paid amount in
    with_balances_adds net h name _ refl (λ s c is.
    either_adds net h (int_lt amount (pos 0)) _ _ (left_as_is net h Negative refl) (λ ge.
    either_adds net h (int_lt (c -ℤ check_cost s c amount) (neg_ℤ LIMIT)) _ _ (left_as_is net h OverLimit refl) (λ le.
    replaced net h name s c s (c -ℤ check_cost s c amount) (cond (int_lt (s +ℤ c) amount) Penalised Done) is (paid_worth s c amount (int_lt (s +ℤ c) amount)))))
procedure_adds directory (SendPayment from to amount) rows h =
    let net = net_of (SendPayment from to amount) in
    with_balances_adds net h from _ refl (λ s c is_from. with_balances_adds net h to _ refl (λ s_to c_to is_to.
    either_adds net h (bytes_eq from to) _ _ (left_as_is net h SameCustomer refl) (λ differs.
    either_adds net h (int_lt amount (pos 0)) _ _ (left_as_is net h Negative refl) (λ ge.
    either_adds net h (int_lt c amount) _ _ (left_as_is net h WouldOverdraw refl) (λ enough.
    either_adds net h (int_lt LIMIT (c_to +ℤ amount)) _ _ (left_as_is net h OverLimit refl) (λ fits.
    two_replaced directory rows from to s c s_to c_to s (c -ℤ amount) (c_to +ℤ amount) h is_from is_to differs (omega (arith, ints))))))))

-- the total after the first calls of a log
pub total_after : TotalByNet
total_after directory opening log zero h = omega (arith, ints)
total_after directory opening [] (suc k) h = omega (arith, ints)
total_after directory opening (call ∷ log) (suc k) h =
    let first = procedure_adds directory call opening h in
    let rest = total_after directory (procedure call opening).rows log k first.names in
    rw (rest, first.total) (omega (arith, ints))
