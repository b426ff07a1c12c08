-- An op executed over its cowns.
use Rattle.std.proofs.Common.{◌≡◌, ℕ, ◌*◌, ◌<◌, ◌==◌, nat_lt, Bool, true, false, cond, List, [], ◌∷◌, length, sym, ap, subst, ◌∙◌, arith}
use Rattle.sb_rows.specs.Balances.{Balances, IsBalances}
use Rattle.sb_rows.specs.Rows.{SameCustomers}
use Rattle.sb_calls.proofs.EffectIsProcedure.{effect_performs}
use Rattle.sb_calls.proofs.CownContents.{IsContents-balances, AreCownValues-read, below_among, length-write}
use Rattle.sb_calls.proofs.CownColumns.{contents_of-injective, length-contents_of}
use Rattle.sb_calls.specs.Behaviour.{amalgamation_cowns, payment_cowns, declared_cowns, effect_of}
use Rattle.sb_calls.specs.Cowns.{savings_cown, checking_cown, AreBelow, AreCownValues, contents_of, read_cowns, write_cowns}
use Rattle.sb_calls.specs.FollowsProcedure.{FollowsProcedure}
use Rattle.sb_calls.specs.Op.{op_of, IsOpWithin}
use Rattle.sb_calls.specs.declared.call.Call.{Call}
use Rattle.sb_calls.specs.declared.op.Op.{Op}
use Rattle.sb_calls.specs.declared.op.Op.TheVariants.{Balance, DepositChecking, TransactSavings, Amalgamate, WriteCheck, SendPayment, NoCustomer, SameCustomer}

-- ---- what its cowns are, and contain

amalgamation_cowns_below : (from to n : ℕ) → from < n → to < n → AreBelow (2 * n) (amalgamation_cowns from to)
amalgamation_cowns_below from to n lt_from lt_to = by (from == to) (nat_lt from to)
  where
    by : (one before : Bool)
        → AreBelow (2 * n) (cond one [] (cond before (savings_cown from ∷ checking_cown from ∷ checking_cown to ∷ [])
        (checking_cown to ∷ savings_cown from ∷ checking_cown from ∷ [])))
    by true before = tt
    by false true = (omega (arith, lt_from), (omega (arith, lt_from), (omega (arith, lt_to), tt)))
    by false false = (omega (arith, lt_to), (omega (arith, lt_from), (omega (arith, lt_from), tt)))

payment_cowns_below : (from to n : ℕ) → from < n → to < n → AreBelow (2 * n) (payment_cowns from to)
payment_cowns_below from to n lt_from lt_to = by (from == to) (nat_lt from to)
  where
    by : (one before : Bool)
        → AreBelow (2 * n) (cond one [] (cond before (checking_cown from ∷ checking_cown to ∷ []) (checking_cown to ∷ checking_cown from ∷ [])))
    by true before = tt
    by false true = (omega (arith, lt_from), (omega (arith, lt_to), tt))
    by false false = (omega (arith, lt_to), (omega (arith, lt_from), tt))

-- an op within the number of customers declares cowns of theirs
op_below : (n : ℕ) (op : Op) → IsOpWithin n op → AreBelow (2 * n) (declared_cowns op)
op_below n (Balance place) lt = (omega (arith, lt), (omega (arith, lt), tt))
op_below n (DepositChecking place amount) lt = (omega (arith, lt), tt)
op_below n (TransactSavings place amount) lt = (omega (arith, lt), tt)
op_below n (Amalgamate places) lt = amalgamation_cowns_below places.0 places.1 n lt.0 lt.1
op_below n (WriteCheck place amount) lt = (omega (arith, lt), (omega (arith, lt), tt))
op_below n (SendPayment places amount) lt = payment_cowns_below places.0 places.1 n lt.0 lt.1
op_below n NoCustomer lt = tt
op_below n SameCustomer lt = tt

pub declared_below : (b : Balances) (op : Op) → length b.savings ≡ length b.checking → IsOpWithin (length b.savings) op
    → AreBelow (length (contents_of b)) (declared_cowns op)
declared_below b op same within = subst (λ n. AreBelow n (declared_cowns op)) (sym (length-contents_of b same)) (op_below (length b.savings) op within)

-- so the cowns of an op contain allowed values
pub declared_cown_values : (b : Balances) (op : Op) → IsBalances b → IsOpWithin (length b.savings) op
    → AreCownValues (declared_cowns op) (read_cowns (contents_of b) (declared_cowns op))
declared_cown_values b op valid within =
    AreCownValues-read (contents_of b) (declared_cowns op) (IsContents-balances b valid)
    (λ cown. below_among (length (contents_of b)) (declared_cowns op) cown (declared_below b op valid.same within))

-- ---- what is written back

module _ (old new : Balances) (op : Op) (written : contents_of new
    ≡ write_cowns (contents_of old) (declared_cowns op) (effect_of op (read_cowns (contents_of old) (declared_cowns op))).1) where
  -- the rows follow the procedure
  pub applied_follows : (directory : List (List ℕ)) (call : Call) → SameCustomers directory old → op ≡ op_of directory call
      → length new.savings ≡ length new.checking
      → FollowsProcedure directory call old new (effect_of op (read_cowns (contents_of old) (declared_cowns op))).0
  applied_follows directory call same e beside =
      let made = effect_performs directory old call op same e in
      let is : made.new ≡ new = contents_of-injective made.new new made.performs.customers.balances.same beside (made.written ∙ sym written) in
      subst (λ (b : Balances). FollowsProcedure directory call old b (effect_of op (read_cowns (contents_of old) (declared_cowns op))).0) is made.performs

  -- the places stay
  pub applied_places : length old.savings ≡ length old.checking → length new.savings ≡ length new.checking → length new.savings ≡ length old.savings
  applied_places old_same new_same =
      let values = (effect_of op (read_cowns (contents_of old) (declared_cowns op))).1 in
      omega (
        arith,
        ap length written,
        length-write (contents_of old)
            (declared_cowns op) values,
        length-contents_of old old_same,
        length-contents_of new new_same,
      )
