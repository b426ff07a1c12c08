-- A call depends on the balances that it touches, and leaves all others.
use Rattle.std.proofs.Common.{◌≡◌, ℕ, ℤ, pos, neg_ℤ, ◌+ℤ◌, ◌-ℤ◌, Bool, true, false, cond, not, ◌&&◌, inl, inr, Option, Some, None, is_some, List, [], ◌∷◌, refl, sym, ap, subst, ◌∙◌}
use Rattle.std.specs.Prelude.{int_lt, if◌then◌else◌, option_map}
use Rattle.std.specs.FinMap.{get, insert}
use Rattle.std.specs.List.{Contains}
use Rattle.std.specs.Str.{bytes_eq}
use Rattle.std.proofs.lemmas.Bool.{both_ways}
use Rattle.std.proofs.lemmas.Slice.Eq.{bytes_eq-Decides}
use Rattle.sb_amount.specs.declared.cents.TheConstants.{LIMIT}
use Rattle.sb_rows.specs.Rows.{Rows}
use Rattle.sb_calls.proofs.ListMembers.{IsOneOf, one_from_Contains, Contains-from_one}
use Rattle.sb_calls.proofs.RowTotals.{get-insert_name, other_name}
use Rattle.sb_calls.specs.Procedures.{CallResult, with_balances, with_both_balances, balance_result, deposit_result, savings_result, takes_too_much, amalgamation_result, check_cost, check_result, payment_result, procedure}
use Rattle.sb_calls.specs.Touches.{BalanceCell, Savings, Checking, balance_at, has_name, both_of, touched_cells, HaveSameNames, AgreeOn, Locality}
use Rattle.sb_calls.specs.declared.call.Call.{Call}
use Rattle.sb_calls.specs.declared.call.Call.TheVariants.{Balance, DepositChecking, TransactSavings, Amalgamate, WriteCheck, SendPayment}
use Rattle.sb_calls.specs.declared.reply.Reply.{Reply}
use Rattle.sb_calls.specs.declared.reply.Reply.TheVariants as replies

-- ---- a balance by its name and which of the two it is

abbrev pub name_of : BalanceCell → List ℕ
name_of (Savings name) = name
name_of (Checking name) = name

abbrev value_of : BalanceCell → ℤ × ℤ → ℤ
value_of (Savings name) balances = balances.0
value_of (Checking name) balances = balances.1

-- a balance, if the row is known
balance_is : (rows : Rows) (cell : BalanceCell) (v : ℤ × ℤ) → get rows (name_of cell) ≡ Some v → balance_at rows cell ≡ Some (value_of cell v)
balance_is rows (Savings name) v e = ap (option_map (λ (balances : ℤ × ℤ). balances.0)) e
balance_is rows (Checking name) v e = ap (option_map (λ (balances : ℤ × ℤ). balances.1)) e

-- writing a row changes its own balances alone
balance_at-insert : (rows : Rows) (name : List ℕ) (v : ℤ × ℤ) (cell : BalanceCell)
    → balance_at (insert rows name v) cell ≡ cond (bytes_eq (name_of cell) name) (Some (value_of cell v)) (balance_at rows cell)
balance_at-insert rows name v (Savings q) = ap (option_map (λ (balances : ℤ × ℤ). balances.0)) (get-insert_name rows name v q) ∙ by (bytes_eq q name)
  where
    by : (test : Bool) → option_map (λ (balances : ℤ × ℤ). balances.0) (cond test (Some v) (get rows q)) ≡ cond test (Some v.0) (balance_at rows (Savings q))
    by true = refl
    by false = refl
balance_at-insert rows name v (Checking q) = ap (option_map (λ (balances : ℤ × ℤ). balances.1)) (get-insert_name rows name v q) ∙ by (bytes_eq q name)
  where
    by : (test : Bool) → option_map (λ (balances : ℤ × ℤ). balances.1) (cond test (Some v) (get rows q)) ≡ cond test (Some v.1) (balance_at rows (Checking q))
    by true = refl
    by false = refl

-- ---- two results on rows that agree

record AreLocal (cells : List BalanceCell) (a b : Rows) (on_a on_b : CallResult) : Type 0 where
  reply : on_a.reply ≡ on_b.reply
  balances : AgreeOn cells on_a.rows on_b.rows
  others : (cell : BalanceCell) → ¬ Contains cells cell → balance_at on_a.rows cell ≡ balance_at a cell

module _ {cells : List BalanceCell} {a b : Rows} where
  -- two results that leave the rows
  left_local : (reply : Reply) → AgreeOn cells a b → AreLocal cells a b (record { rows = a; reply = reply }) (record { rows = b; reply = reply })
  left_local reply agree = record { reply = refl; balances = agree; others = λ cell other. refl }

  -- two results by the same test
  either_local : (test : Bool) (first_a second_a first_b second_b : CallResult) → AreLocal cells a b first_a first_b
      → (test ≡ false → AreLocal cells a b second_a second_b)
      → AreLocal cells a b (cond test first_a second_a) (cond test first_b second_b)
  either_local true first_a second_a first_b second_b first second = first
  either_local false first_a second_a first_b second_b first second = second refl

  -- two results that write a row, which agree on touched balances and leave the others
  written_local : (name : List ℕ) (old on_a on_b : ℤ × ℤ) (reply : Reply) → AgreeOn cells a b → get a name ≡ Some old
      → ((cell : BalanceCell) → IsOneOf cells cell → name_of cell ≡ name → value_of cell on_a ≡ value_of cell on_b)
      → ((cell : BalanceCell) → ¬ IsOneOf cells cell → name_of cell ≡ name → value_of cell on_a ≡ value_of cell old)
      → AreLocal cells a b (record { rows = insert a name on_a; reply = reply }) (record { rows = insert b name on_b; reply = reply })
  written_local name old on_a on_b reply agree was alike kept = record {
    reply = refl;
    balances = λ cell among. balance_at-insert a name on_a cell ∙ touched_alike cell among (bytes_eq (name_of cell) name) refl
        ∙ sym (balance_at-insert b name on_b cell);
    others = λ cell other. balance_at-insert a name on_a cell ∙ other_kept cell other (bytes_eq (name_of cell) name) refl;
  }
    where
      touched_alike : (cell : BalanceCell) → Contains cells cell → (test : Bool) → bytes_eq (name_of cell) name ≡ test
          → cond test (Some (value_of cell on_a)) (balance_at a cell) ≡ cond test (Some (value_of cell on_b)) (balance_at b cell)
      touched_alike cell among true e = ap Some (alike cell (one_from_Contains cells cell among) ((bytes_eq-Decides (name_of cell) name).0 e))
      touched_alike cell among false e = agree cell among

      other_kept : (cell : BalanceCell) → ¬ Contains cells cell → (test : Bool) → bytes_eq (name_of cell) name ≡ test
          → cond test (Some (value_of cell on_a)) (balance_at a cell) ≡ balance_at a cell
      other_kept cell other true e =
          let same : name_of cell ≡ name = (bytes_eq-Decides (name_of cell) name).0 e in
          ap Some (kept cell (λ one. other (Contains-from_one cells cell one)) same) ∙ sym (balance_is a cell old (ap (get a) same ∙ was))
      other_kept cell other false e = refl

-- ---- one customer

-- a name that has rows in both or in neither
local_one : (a b : Rows) (name : List ℕ) (result : Rows → ℤ → ℤ → CallResult) (cells : List BalanceCell) → HaveSameNames a b
    → AgreeOn (if has_name a name then cells else []) a b
    → ((s c s_b c_b : ℤ) → get a name ≡ Some (s, c) → get b name ≡ Some (s_b, c_b) → AgreeOn cells a b
    → AreLocal cells a b (result a s c) (result b s_b c_b))
    → AreLocal (if has_name a name then cells else []) a b (with_balances a (result a) (get a name)) (with_balances b (result b) (get b name))
local_one a b name result cells names agree there = by (get a name) (get b name) refl refl (names name) agree
  where
    by : (on_a on_b : Option (ℤ × ℤ)) → get a name ≡ on_a → get b name ≡ on_b → is_some on_a ≡ is_some on_b → AgreeOn (if is_some on_a then cells else []) a b
        → AreLocal (if is_some on_a then cells else []) a b (with_balances a (result a) on_a) (with_balances b (result b) on_b)
    by None None e_a e_b same alike = left_local replies.NoCustomer alike
    by None (Some v) e_a e_b same alike = absurd cc
    by (Some v) None e_a e_b same alike = absurd cc
    by (Some v) (Some w) e_a e_b same alike = there v.0 v.1 w.0 w.1 e_a e_b alike

-- a balance on which both agree
same_savings : (a b : Rows) (name : List ℕ) (s c s_b c_b : ℤ) → get a name ≡ Some (s, c) → get b name ≡ Some (s_b, c_b)
    → balance_at a (Savings name) ≡ balance_at b (Savings name) → s ≡ s_b
same_savings a b name s c s_b c_b e_a e_b agree =
    let same : ◌≡◌ {A = Option ℤ} (Some s) (Some s_b) = sym (balance_is a (Savings name) (s, c) e_a) ∙ agree ∙ balance_is b (Savings name) (s_b, c_b) e_b in cc

same_checking : (a b : Rows) (name : List ℕ) (s c s_b c_b : ℤ) → get a name ≡ Some (s, c) → get b name ≡ Some (s_b, c_b)
    → balance_at a (Checking name) ≡ balance_at b (Checking name) → c ≡ c_b
same_checking a b name s c s_b c_b e_a e_b agree =
    let same : ◌≡◌ {A = Option ℤ} (Some c) (Some c_b) = sym (balance_is a (Checking name) (s, c) e_a) ∙ agree ∙ balance_is b (Checking name) (s_b, c_b) e_b in
    cc

-- ---- the procedures of one customer

-- if checking alone is touched, it is the first of the list
checking_alone : (name : List ℕ) (cell : BalanceCell) → IsOneOf (Checking name ∷ []) cell → (v w : ℤ × ℤ) → v.1 ≡ w.1 → value_of cell v ≡ value_of cell w
checking_alone name (Savings q) (inl e) v w same = absurd cc
checking_alone name (Savings q) (inr none) v w same = absurd none
checking_alone name (Checking q) one v w same = same

savings_left : (name : List ℕ) (cell : BalanceCell) → ¬ IsOneOf (Checking name ∷ []) cell → name_of cell ≡ name → (v w : ℤ × ℤ) → v.0 ≡ w.0
    → value_of cell v ≡ value_of cell w
savings_left name (Savings q) other is v w same = same
savings_left name (Checking q) other is v w same = absurd (other (inl (ap Checking (sym is))))

savings_alone : (name : List ℕ) (cell : BalanceCell) → IsOneOf (Savings name ∷ []) cell → (v w : ℤ × ℤ) → v.0 ≡ w.0 → value_of cell v ≡ value_of cell w
savings_alone name (Savings q) one v w same = same
savings_alone name (Checking q) (inl e) v w same = absurd cc
savings_alone name (Checking q) (inr none) v w same = absurd none

checking_left : (name : List ℕ) (cell : BalanceCell) → ¬ IsOneOf (Savings name ∷ []) cell → name_of cell ≡ name → (v w : ℤ × ℤ) → v.1 ≡ w.1
    → value_of cell v ≡ value_of cell w
checking_left name (Savings q) other is v w same = absurd (other (inl (ap Savings (sym is))))
checking_left name (Checking q) other is v w same = same

-- if both are touched, none is left
none_left : (name : List ℕ) (cell : BalanceCell) → ¬ IsOneOf (both_of name) cell → name_of cell ≡ name → ⊥
none_left name (Savings q) other is = other (inl (ap Savings (sym is)))
none_left name (Checking q) other is = other (inr (inl (ap Checking (sym is))))

module _ (a b : Rows) (name : List ℕ) (names : HaveSameNames a b) where
  -- both balances agree if both are touched
  on_both : (result : Rows → ℤ → ℤ → CallResult)
      → ((s c : ℤ) → get a name ≡ Some (s, c) → AgreeOn (both_of name) a b → AreLocal (both_of name) a b (result a s c) (result b s c))
      → AgreeOn (if has_name a name then both_of name else []) a b
      → AreLocal (if has_name a name then both_of name else []) a b (with_balances a (result a) (get a name)) (with_balances b (result b) (get b name))
  on_both result there agree = local_one a b name result (both_of name) names agree (λ s c s_b c_b e_a e_b alike.
      let same_s = same_savings a b name s c s_b c_b e_a e_b (alike (Savings name) (Contains-from_one (both_of name) (Savings name) (inl refl))) in
      let same_c = same_checking a b name s c s_b c_b e_a e_b (alike (Checking name) (Contains-from_one (both_of name) (Checking name) (inr (inl refl)))) in
      subst (λ (v : ℤ). AreLocal (both_of name) a b (result a s c) (result b v c_b)) same_s
      (subst (λ (k : ℤ). AreLocal (both_of name) a b (result a s c) (result b s k)) same_c (there s c e_a alike)))

  balance_local : AgreeOn (touched_cells a (Balance name)) a b
      → AreLocal (touched_cells a (Balance name)) a b (procedure (Balance name) a) (procedure (Balance name) b)
  balance_local agree = on_both balance_result (λ s c e alike. left_local (replies.Shown (s +ℤ c)) alike) agree

  deposit_local : (amount : ℤ) → AgreeOn (touched_cells a (DepositChecking name amount)) a b
      → AreLocal (touched_cells a (DepositChecking name amount)) a b (procedure (DepositChecking name amount) a) (procedure (DepositChecking name amount) b)
  deposit_local amount agree = local_one a b name (deposit_result name amount) (Checking name ∷ []) names agree (λ s c s_b c_b e_a e_b alike.
      let same = same_checking a b name s c s_b c_b e_a e_b (alike (Checking name) (Contains-from_one (Checking name ∷ []) (Checking name) (inl refl))) in
      subst (λ (k : ℤ). AreLocal (Checking name ∷ []) a b (deposit_result name amount a s c) (deposit_result name amount b s_b k)) same
      (either_local (int_lt amount (pos 0)) _ _ _ _ (left_local replies.Negative alike) (λ ge.
      either_local (int_lt LIMIT (c +ℤ amount)) _ _ _ _ (left_local replies.OverLimit alike) (λ le.
      written_local name (s, c) (s, c +ℤ amount) (s_b, c +ℤ amount) replies.Done alike e_a
      (λ cell one is. checking_alone name cell one (s, c +ℤ amount) (s_b, c +ℤ amount) refl)
      (λ cell other is. savings_left name cell other is (s, c +ℤ amount) (s, c) refl)))))

  savings_local : (amount : ℤ) → AgreeOn (touched_cells a (TransactSavings name amount)) a b
      → AreLocal (touched_cells a (TransactSavings name amount)) a b (procedure (TransactSavings name amount) a) (procedure (TransactSavings name amount) b)
  savings_local amount agree = local_one a b name (savings_result name amount) (Savings name ∷ []) names agree (λ s c s_b c_b e_a e_b alike.
      let same = same_savings a b name s c s_b c_b e_a e_b (alike (Savings name) (Contains-from_one (Savings name ∷ []) (Savings name) (inl refl))) in
      subst (λ (v : ℤ). AreLocal (Savings name ∷ []) a b (savings_result name amount a s c) (savings_result name amount b v c_b)) same
      (either_local (int_lt (s +ℤ amount) (pos 0)) _ _ _ _ (left_local replies.WouldOverdraw alike) (λ ge.
      either_local (int_lt LIMIT (s +ℤ amount)) _ _ _ _ (left_local replies.OverLimit alike) (λ le.
      written_local name (s, c) (s +ℤ amount, c) (s +ℤ amount, c_b) replies.Done alike e_a
      (λ cell one is. savings_alone name cell one (s +ℤ amount, c) (s +ℤ amount, c_b) refl)
      (λ cell other is. checking_left name cell other is (s +ℤ amount, c) (s, c) refl)))))

  check_local : (amount : ℤ) → AgreeOn (touched_cells a (WriteCheck name amount)) a b
      → AreLocal (touched_cells a (WriteCheck name amount)) a b (procedure (WriteCheck name amount) a) (procedure (WriteCheck name amount) b)
  check_local amount agree = on_both (check_result name amount) (λ s c e alike.
      let left = c -ℤ check_cost s c amount in
      either_local (int_lt amount (pos 0)) _ _ _ _ (left_local replies.Negative alike) (λ ge.
      either_local (int_lt left (neg_ℤ LIMIT)) _ _ _ _ (left_local replies.OverLimit alike) (λ le.
      written_local name (s, c) (s, left) (s, left) (if int_lt (s +ℤ c) amount then replies.Penalised else replies.Done) alike e
      (λ cell one is. refl)
      (λ cell other is. absurd (none_left name cell other is))))) agree

-- ---- two customers

-- an amalgamation touches both balances of the giver, and the checking of the taker
abbrev amalgamation_cells : List ℕ → List ℕ → List BalanceCell
amalgamation_cells from to = Savings from ∷ Checking from ∷ Checking to ∷ []

-- no balance of the giver is left out
none_left_of_giver : (from to : List ℕ) (cell : BalanceCell) → ¬ IsOneOf (amalgamation_cells from to) cell → name_of cell ≡ from → ⊥
none_left_of_giver from to (Savings q) other is = other (inl (ap Savings (sym is)))
none_left_of_giver from to (Checking q) other is = other (inr (inl (ap Checking (sym is))))

-- of the taker, savings are left, and checking alone is touched
taker_touched : (from to : List ℕ) (cell : BalanceCell) → bytes_eq from to ≡ false → IsOneOf (amalgamation_cells from to) cell → name_of cell ≡ to
    → (v w : ℤ × ℤ) → v.1 ≡ w.1 → value_of cell v ≡ value_of cell w
taker_touched from to (Savings q) differs (inl e) is v w same =
    let one : from ≡ to = ap name_of e ∙ is in absurd (both_ways (bytes_eq from to) differs ((bytes_eq-Decides from to).1 one))
taker_touched from to (Savings q) differs (inr (inl e)) is v w same = absurd cc
taker_touched from to (Savings q) differs (inr (inr (inl e))) is v w same = absurd cc
taker_touched from to (Savings q) differs (inr (inr (inr none))) is v w same = absurd none
taker_touched from to (Checking q) differs one is v w same = same

taker_left : (from to : List ℕ) (cell : BalanceCell) → ¬ IsOneOf (amalgamation_cells from to) cell → name_of cell ≡ to → (v w : ℤ × ℤ) → v.0 ≡ w.0
    → value_of cell v ≡ value_of cell w
taker_left from to (Savings q) other is v w same = same
taker_left from to (Checking q) other is v w same = absurd (other (inr (inr (inl (ap Checking (sym is))))))

-- two rows written, one after the other
abbrev rows_after_amalgamation : List ℕ → List ℕ → Rows → ℤ → ℤ → Rows
rows_after_amalgamation from to rows savings_to sum = insert (insert rows from (pos 0, pos 0)) to (savings_to, sum)

amalgamation_rows_local : (a b : Rows) (from to : List ℕ) (s c s_to c_to s_to_b sum : ℤ) → bytes_eq from to ≡ false → AgreeOn (amalgamation_cells from to) a b
    → get a from ≡ Some (s, c) → get a to ≡ Some (s_to, c_to)
    → AreLocal (amalgamation_cells from to) a b (record { rows = rows_after_amalgamation from to a s_to sum; reply = replies.Done })
    (record { rows = rows_after_amalgamation from to b s_to_b sum; reply = replies.Done })
amalgamation_rows_local a b from to s c s_to c_to s_to_b sum differs agree is_from is_to =
    let first = written_local {cells = amalgamation_cells from to} {a = a} {b = b} from (s, c) (pos 0, pos 0) (pos 0, pos 0) replies.Done agree is_from
    (λ cell one is. refl) (λ cell other is. absurd (none_left_of_giver from to cell other is)) in
    let kept : get (insert a from (pos 0, pos 0)) to ≡ Some (s_to, c_to) =
    get-insert_name a from (pos 0, pos 0) to ∙ ap (λ t. cond t (Some (pos 0, pos 0)) (get a to)) (other_name from to differs) ∙ is_to in
    let second = written_local {cells = amalgamation_cells from to} {a = insert a from (pos 0, pos 0)} {b = insert b from (pos 0, pos 0)} to
    (s_to, c_to) (s_to, sum) (s_to_b, sum) replies.Done first.balances kept
    (λ cell one is. taker_touched from to cell differs one is (s_to, sum) (s_to_b, sum) refl)
    (λ cell other is. taker_left from to cell other is (s_to, sum) (s_to, c_to) refl) in
    record { reply = refl; balances = second.balances; others = λ cell other. second.others cell other ∙ first.others cell other }

-- an amalgamation of two different customers, on rows that agree
amalgamation_result_local : (a b : Rows) (from to : List ℕ) (s c s_b c_b s_to c_to s_to_b c_to_b : ℤ) → bytes_eq from to ≡ false
    → AgreeOn (amalgamation_cells from to) a b
    → get a from ≡ Some (s, c) → get b from ≡ Some (s_b, c_b) → get a to ≡ Some (s_to, c_to) → get b to ≡ Some (s_to_b, c_to_b)
    → AreLocal (amalgamation_cells from to) a b (amalgamation_result from to a s c s_to c_to) (amalgamation_result from to b s_b c_b s_to_b c_to_b)
amalgamation_result_local a b from to s c s_b c_b s_to c_to s_to_b c_to_b differs alike a_from b_from a_to b_to =
    let same_s = same_savings a b from s c s_b c_b a_from b_from
    (alike (Savings from) (Contains-from_one (amalgamation_cells from to) (Savings from) (inl refl))) in
    let same_c = same_checking a b from s c s_b c_b a_from b_from
    (alike (Checking from) (Contains-from_one (amalgamation_cells from to) (Checking from) (inr (inl refl)))) in
    let same_to = same_checking a b to s_to c_to s_to_b c_to_b a_to b_to
    (alike (Checking to) (Contains-from_one (amalgamation_cells from to) (Checking to) (inr (inr (inl refl))))) in
    let sum = (c_to +ℤ s) +ℤ c in
    let on_a = amalgamation_result from to a s c s_to c_to in
    subst (λ (v : ℤ). AreLocal (amalgamation_cells from to) a b on_a (amalgamation_result from to b v c_b s_to_b c_to_b)) same_s
    (subst (λ (k : ℤ). AreLocal (amalgamation_cells from to) a b on_a (amalgamation_result from to b s k s_to_b c_to_b)) same_c
    (subst (λ (k : ℤ). AreLocal (amalgamation_cells from to) a b on_a (amalgamation_result from to b s c s_to_b k)) same_to
    (either_local (takes_too_much sum) _ _ _ _ (left_local replies.OverLimit alike) (λ fits.
    amalgamation_rows_local a b from to s c s_to c_to s_to_b sum differs alike a_from a_to))))

-- if both names have rows and are different, the call is as local as its effect on their balances
local_two : (a b : Rows) (from to : List ℕ) (result : Rows → ℤ → ℤ → ℤ → ℤ → CallResult) (cells : List BalanceCell) → HaveSameNames a b
    → AgreeOn (if has_name a from && has_name a to && not (bytes_eq from to) then cells else []) a b
    → ((s c s_b c_b s_to c_to s_to_b c_to_b : ℤ) → bytes_eq from to ≡ false → AgreeOn cells a b → get a from ≡ Some (s, c) → get b from ≡ Some (s_b, c_b)
    → get a to ≡ Some (s_to, c_to) → get b to ≡ Some (s_to_b, c_to_b)
    → AreLocal cells a b (result a s c s_to c_to) (result b s_b c_b s_to_b c_to_b))
    → AreLocal (if has_name a from && has_name a to && not (bytes_eq from to) then cells else []) a b
    (with_both_balances a (result a) (bytes_eq from to) (get a from) (get a to)) (with_both_balances b (result b) (bytes_eq from to) (get b from) (get b to))
local_two a b from to result cells names agree there =
    by (bytes_eq from to) (get a from) (get b from) (get a to) (get b to) refl refl refl refl refl (names from) (names to) agree
  where
    by : (one : Bool) (a_from b_from a_to b_to : Option (ℤ × ℤ)) → bytes_eq from to ≡ one → get a from ≡ a_from → get b from ≡ b_from → get a to ≡ a_to
        → get b to ≡ b_to
        → is_some a_from ≡ is_some b_from → is_some a_to ≡ is_some b_to
        → AgreeOn (if is_some a_from && is_some a_to && not one then cells else []) a b
        → AreLocal (if is_some a_from && is_some a_to && not one then cells else []) a b (with_both_balances a (result a) one a_from a_to)
        (with_both_balances b (result b) one b_from b_to)
    by one None (Some w) a_to b_to e ea eb fa fb same_from same_to alike = absurd cc
    by one (Some v) None a_to b_to e ea eb fa fb same_from same_to alike = absurd cc
    by one None None a_to b_to e ea eb fa fb same_from same_to alike = left_local replies.NoCustomer alike
    by one (Some v) (Some w) None (Some y) e ea eb fa fb same_from same_to alike = absurd cc
    by one (Some v) (Some w) (Some x) None e ea eb fa fb same_from same_to alike = absurd cc
    by one (Some v) (Some w) None None e ea eb fa fb same_from same_to alike = left_local replies.NoCustomer alike
    by true (Some v) (Some w) (Some x) (Some y) e ea eb fa fb same_from same_to alike = left_local replies.SameCustomer alike
    by false (Some v) (Some w) (Some x) (Some y) e ea eb fa fb same_from same_to alike =
        there v.0 v.1 w.0 w.1 x.0 x.1 y.0 y.1 e alike ea eb fa fb

amalgamate_local : (a b : Rows) (from to : List ℕ) → HaveSameNames a b → AgreeOn (touched_cells a (Amalgamate from to)) a b
    → AreLocal (touched_cells a (Amalgamate from to)) a b (procedure (Amalgamate from to) a) (procedure (Amalgamate from to) b)
amalgamate_local a b from to names agree =
    local_two a b from to (amalgamation_result from to) (amalgamation_cells from to) names agree (amalgamation_result_local a b from to)

-- ---- payments

-- a payment touches the checking of both
abbrev payment_cells : List ℕ → List ℕ → List BalanceCell
payment_cells from to = Checking from ∷ Checking to ∷ []

checking_touched : (from to : List ℕ) (cell : BalanceCell) → IsOneOf (payment_cells from to) cell → (v w : ℤ × ℤ) → v.1 ≡ w.1
    → value_of cell v ≡ value_of cell w
checking_touched from to (Savings q) (inl e) v w same = absurd cc
checking_touched from to (Savings q) (inr (inl e)) v w same = absurd cc
checking_touched from to (Savings q) (inr (inr none)) v w same = absurd none
checking_touched from to (Checking q) one v w same = same

-- and leaves their savings
savings_of_both_left : (from to name : List ℕ) (cell : BalanceCell) → IsOneOf (payment_cells from to) (Checking name)
    → ¬ IsOneOf (payment_cells from to) cell → name_of cell ≡ name → (v w : ℤ × ℤ) → v.0 ≡ w.0
    → value_of cell v ≡ value_of cell w
savings_of_both_left from to name (Savings q) one other is v w same = same
savings_of_both_left from to name (Checking q) one other is v w same =
    absurd (other (subst (λ (n : List ℕ). IsOneOf (payment_cells from to) (Checking n)) (sym is) one))

-- two rows written, one after the other
abbrev rows_after_payment : List ℕ → List ℕ → Rows → ℤ → ℤ → ℤ → ℤ → Rows
rows_after_payment from to rows savings left savings_to sum = insert (insert rows from (savings, left)) to (savings_to, sum)

payment_rows_local : (a b : Rows) (from to : List ℕ) (s c s_b s_to c_to s_to_b left sum : ℤ) → bytes_eq from to ≡ false → AgreeOn (payment_cells from to) a b
    → get a from ≡ Some (s, c) → get a to ≡ Some (s_to, c_to)
    → AreLocal (payment_cells from to) a b (record { rows = rows_after_payment from to a s left s_to sum; reply = replies.Done })
    (record { rows = rows_after_payment from to b s_b left s_to_b sum; reply = replies.Done })
payment_rows_local a b from to s c s_b s_to c_to s_to_b left sum differs agree is_from is_to =
    let first = written_local {cells = payment_cells from to} {a = a} {b = b} from (s, c) (s, left) (s_b, left) replies.Done agree is_from
    (λ cell one is. checking_touched from to cell one (s, left) (s_b, left) refl)
    (λ cell other is. savings_of_both_left from to from cell (inl refl) other is (s, left) (s, c) refl) in
    let kept : get (insert a from (s, left)) to ≡ Some (s_to, c_to) =
    get-insert_name a from (s, left) to ∙ ap (λ t. cond t (Some (s, left)) (get a to)) (other_name from to differs) ∙ is_to in
    let second = written_local {cells = payment_cells from to} {a = insert a from (s, left)} {b = insert b from (s_b, left)} to (s_to, c_to) (s_to, sum)
    (s_to_b, sum) replies.Done first.balances kept
    (λ cell one is. checking_touched from to cell one (s_to, sum) (s_to_b, sum) refl)
    (λ cell other is. savings_of_both_left from to to cell (inr (inl refl)) other is (s_to, sum) (s_to, c_to) refl) in
    record { reply = refl; balances = second.balances; others = λ cell other. second.others cell other ∙ first.others cell other }

-- a payment between two different customers, on rows that agree
payment_result_local : (a b : Rows) (from to : List ℕ) (amount s c s_b c_b s_to c_to s_to_b c_to_b : ℤ) → bytes_eq from to ≡ false
    → AgreeOn (payment_cells from to) a b
    → get a from ≡ Some (s, c) → get b from ≡ Some (s_b, c_b) → get a to ≡ Some (s_to, c_to) → get b to ≡ Some (s_to_b, c_to_b)
    → AreLocal (payment_cells from to) a b (payment_result from to amount a s c s_to c_to) (payment_result from to amount b s_b c_b s_to_b c_to_b)
payment_result_local a b from to amount s c s_b c_b s_to c_to s_to_b c_to_b differs alike a_from b_from a_to b_to =
    let same_c =
    same_checking a b from s c s_b c_b a_from b_from (alike (Checking from) (Contains-from_one (payment_cells from to) (Checking from) (inl refl))) in
    let same_to = same_checking a b to s_to c_to s_to_b c_to_b a_to b_to
    (alike (Checking to) (Contains-from_one (payment_cells from to) (Checking to) (inr (inl refl)))) in
    let on_a = payment_result from to amount a s c s_to c_to in
    subst (λ (k : ℤ). AreLocal (payment_cells from to) a b on_a (payment_result from to amount b s_b k s_to_b c_to_b)) same_c
    (subst (λ (k : ℤ). AreLocal (payment_cells from to) a b on_a (payment_result from to amount b s_b c s_to_b k)) same_to
    (either_local (int_lt amount (pos 0)) _ _ _ _ (left_local replies.Negative alike) (λ ge.
    either_local (int_lt c amount) _ _ _ _ (left_local replies.WouldOverdraw alike) (λ enough.
    either_local (int_lt LIMIT (c_to +ℤ amount)) _ _ _ _ (left_local replies.OverLimit alike) (λ le.
    payment_rows_local a b from to s c s_b s_to c_to s_to_b (c -ℤ amount) (c_to +ℤ amount) differs alike a_from a_to)))))

payment_local : (a b : Rows) (from to : List ℕ) (amount : ℤ) → HaveSameNames a b → AgreeOn (touched_cells a (SendPayment from to amount)) a b
    → AreLocal (touched_cells a (SendPayment from to amount)) a b (procedure (SendPayment from to amount) a) (procedure (SendPayment from to amount) b)
payment_local a b from to amount names agree =
    local_two a b from to (payment_result from to amount) (payment_cells from to) names agree (payment_result_local a b from to amount)

-- ---- any call

procedure_local : (call : Call) (a b : Rows) → HaveSameNames a b → AgreeOn (touched_cells a call) a b
    → AreLocal (touched_cells a call) a b (procedure call a) (procedure call b)
procedure_local (Balance name) a b names agree = balance_local a b name names agree
procedure_local (DepositChecking name amount) a b names agree = deposit_local a b name names amount agree
procedure_local (TransactSavings name amount) a b names agree = savings_local a b name names amount agree
procedure_local (Amalgamate from to) a b names agree = amalgamate_local a b from to names agree
procedure_local (WriteCheck name amount) a b names agree = check_local a b name names amount agree
procedure_local (SendPayment from to amount) a b names agree = payment_local a b from to amount names agree

pub local : Locality
local call a b names agree = let both = procedure_local call a b names agree in record { reply = both.reply; balances = both.balances; others = both.others }
