-- Calls with a missing name, or with the same customer twice.
use Rattle.std.proofs.Common.{◌≡◌, ℕ, ◌<◌, ℤ, true, inl, inr, Option, Some, None, List, length, refl, sym, ap, ◌∙◌, arith}
use Rattle.std.specs.FinMap.{get}
use Rattle.std.specs.Str.{bytes_eq}
use Rattle.std.proofs.lemmas.Slice.Eq.{bytes_eq-Decides}
use Rattle.sb_rows.proofs.NamePlaces.{place_of_within, place_of_found}
use Rattle.sb_rows.proofs.RowsByPlace.{get-rows_of_absent}
use Rattle.sb_rows.specs.Balances.{Balances}
use Rattle.sb_rows.specs.Directory.{place_of}
use Rattle.sb_rows.specs.Rows.{Rows, rows_of, SameCustomers}
use Rattle.sb_calls.proofs.OpOrigins.{HasMissingName, IsOfTwo, comes_from}
use Rattle.sb_calls.proofs.CustomerRows.{HasRow-unread, row_is}
use Rattle.sb_calls.specs.Op.{op_of}
use Rattle.sb_calls.specs.FollowsProcedure.{FollowsProcedure}
use Rattle.sb_calls.specs.Procedures.{CallResult, with_balances, procedure}
use Rattle.sb_calls.specs.declared.call.Call.{Call}
use Rattle.sb_calls.specs.declared.call.Call.TheVariants.{Balance, DepositChecking, TransactSavings, Amalgamate, WriteCheck, SendPayment}
use Rattle.sb_calls.specs.declared.op.Op.TheVariants as ops
use Rattle.sb_calls.specs.declared.reply.Reply.{Reply}
use Rattle.sb_calls.specs.declared.reply.Reply.TheVariants.{NoCustomer, SameCustomer}

-- a procedure that leaves the rows, as leaving the columns
pub performs_refusal : (directory : List (List ℕ)) (call : Call) (b : Balances) (reply : Reply) → SameCustomers directory b
    → procedure call (rows_of directory b) ≡ record { rows = rows_of directory b; reply = reply } → FollowsProcedure directory call b b reply
performs_refusal directory call b reply same e = record {
  rows = sym (ap (λ (result : CallResult). result.rows) e);
  reply = sym (ap (λ (result : CallResult). result.reply) e);
  customers = same;
}

-- a call of two customers without the second has no customer, whether or not the first exists
no_second : (result : ℤ → ℤ → ℤ → ℤ → CallResult) (from to : List ℕ) (rows : Rows) → get rows to ≡ None
    → with_balances rows (λ savings checking. with_balances rows (result savings checking) (get rows to)) (get rows from)
    ≡ record { rows = rows; reply = NoCustomer }
no_second result from to rows none = by (get rows from)
  where
    by : (balances : Option (ℤ × ℤ))
        → with_balances rows (λ savings checking. with_balances rows (result savings checking) (get rows to)) balances
        ≡ record { rows = rows; reply = NoCustomer }
    by None = refl
    by (Some balances) = rw none refl

-- a call with a name that has no place has no customer
missing_refuses : (directory : List (List ℕ)) (call : Call) (b : Balances) → SameCustomers directory b → HasMissingName directory call
    → procedure call (rows_of directory b) ≡ record { rows = rows_of directory b; reply = NoCustomer }
missing_refuses directory (Balance name) b same missing = rw (get-rows_of_absent directory b name same missing) refl
missing_refuses directory (DepositChecking name amount) b same missing = rw (get-rows_of_absent directory b name same missing) refl
missing_refuses directory (TransactSavings name amount) b same missing = rw (get-rows_of_absent directory b name same missing) refl
missing_refuses directory (Amalgamate from to) b same (inl missing) = rw (get-rows_of_absent directory b from same missing) refl
missing_refuses directory (Amalgamate from to) b same (inr missing) = no_second _ from to (rows_of directory b) (get-rows_of_absent directory b to same missing)
missing_refuses directory (WriteCheck name amount) b same missing = rw (get-rows_of_absent directory b name same missing) refl
missing_refuses directory (SendPayment from to amount) b same (inl missing) = rw (get-rows_of_absent directory b from same missing) refl
missing_refuses directory (SendPayment from to amount) b same (inr missing) =
    no_second _ from to (rows_of directory b) (get-rows_of_absent directory b to same missing)

-- a call that resolves to NoCustomer
pub performs_no_customer : (directory : List (List ℕ)) (call : Call) (b : Balances) → SameCustomers directory b → ops.NoCustomer ≡ op_of directory call
    → FollowsProcedure directory call b b NoCustomer
performs_no_customer directory call b same e =
    performs_refusal directory call b NoCustomer same (missing_refuses directory call b same (comes_from directory call ops.NoCustomer e))

-- a call of a customer with itself
one_refuses : (directory : List (List ℕ)) (call : Call) (from to : List ℕ) (place : ℕ) (b : Balances) → SameCustomers directory b → IsOfTwo from to call
    → place_of directory from ≡ Some place → place_of directory to ≡ Some place
    → procedure call (rows_of directory b) ≡ record { rows = rows_of directory b; reply = SameCustomer }
one_refuses directory call from to place b same of_two found_from found_to = by of_two
  where
    equal : bytes_eq from to ≡ true
    equal =
        let one : ◌≡◌ {A = Option (List ℕ)} (Some from) (Some to) = sym (place_of_found directory from place found_from)
        ∙ place_of_found directory to place found_to in (bytes_eq-Decides from to).1 cc

    lt : place < length directory
    lt = place_of_within directory from place found_from

    by : IsOfTwo from to call → procedure call (rows_of directory b) ≡ record { rows = rows_of directory b; reply = SameCustomer }
    by of_two =
        let row_from = row_is (HasRow-unread directory b from place same found_from (omega (arith, same.same_length, lt))) in
        let row_to = row_is (HasRow-unread directory b to place same found_to (omega (arith, same.same_length, lt))) in
        elim of_two [ inl is ↦ rw (is, row_from, row_to, equal) refl | inr paid ↦ rw (paid.1, row_from, row_to, equal) refl ]

-- a call that resolves to SameCustomer
pub performs_same_customer : (directory : List (List ℕ)) (call : Call) (b : Balances) → SameCustomers directory b → ops.SameCustomer ≡ op_of directory call
    → FollowsProcedure directory call b b SameCustomer
performs_same_customer directory call b same e =
    let made = comes_from directory call ops.SameCustomer e in
    performs_refusal directory call b SameCustomer same (one_refuses directory call made.0 made.1 made.2 b same made.3 made.4 made.5)
