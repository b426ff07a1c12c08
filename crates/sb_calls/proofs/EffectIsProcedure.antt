-- The effect of an op on what its cowns contain is its call's procedure.
use Rattle.std.proofs.Common.{◌≡◌, ◌≢◌, ℕ, ◌<◌, ◌≤◌, ℤ, pos, neg_ℤ, ◌≤ℤ◌, ◌+ℤ◌, ◌-ℤ◌, Bool, true, false, cond, ◌⊎◌, inl, inr, Some, List, [], ◌∷◌, get_or, refl, sym, ap, subst, ◌∙◌, arith}
use Rattle.std.specs.Prelude.{int_lt, slice_set}
use Rattle.std.proofs.lemmas.Bool.{both_ways, cases_lt}
use Rattle.std.proofs.lemmas.Int.{ints}
use Rattle.std.proofs.lemmas.List.{set-get_or, set_comm}
use Rattle.std.proofs.lemmas.Option.{get_or_from_slice_get}
use Rattle.sb_amount.specs.Limit.{IsWithinLimit}
use Rattle.sb_amount.specs.declared.cents.TheConstants.{LIMIT}
use Rattle.sb_rows.proofs.NamePlaces.{place_of_within}
use Rattle.sb_rows.specs.Balances.{Balances}
use Rattle.sb_rows.specs.Directory.{place_of}
use Rattle.sb_rows.specs.Rows.{with_row, SameCustomers}
use Rattle.sb_calls.proofs.Amalgamation.{within_limit, performs_amalgamate_over_limit, performs_amalgamate}
use Rattle.sb_calls.proofs.EffectCases.{cost_bounds, cowns_giver_first, cowns_taker_first, effect_giver_first, effect_taker_first, cowns_payer_first, cowns_payee_first, effect_payer_first, effect_payee_first}
use Rattle.sb_calls.proofs.CownColumns.{contents_at_savings, contents_at_checking, contents_of-with_savings, contents_of-with_checking, write-read}
use Rattle.sb_calls.proofs.OpOrigins.{comes_from}
use Rattle.sb_calls.proofs.Payments.{balances_after_payment, performs_payment_negative, performs_payment_overdraft, performs_payment_over_limit, performs_payment}
use Rattle.sb_calls.proofs.CustomerRows.{HasRow, HasRow-unread, with_savings, with_checking, checking_within}
use Rattle.sb_calls.proofs.Procedures.{performs_balance, performs_negative, performs_over_limit, performs_deposit, performs_overdraft, performs_savings_over_limit, performs_savings, performs_check_negative, performs_check_over_limit, performs_check}
use Rattle.sb_calls.proofs.Refusals.{performs_no_customer, performs_same_customer}
use Rattle.sb_calls.specs.Behaviour.{amalgamation_cowns, payment_cowns, declared_cowns, deposit_effect, savings_effect, check_effect, giver_first_effect, taker_first_effect, payer_first_effect, payee_first_effect, amalgamation_effect, payment_effect, effect_of}
use Rattle.sb_calls.specs.inner.BehaviourLaws.{sum_within, in_each_payment}
use Rattle.sb_calls.specs.CownLaws.{PerformsByCowns}
use Rattle.sb_calls.specs.Cowns.{savings_cown, checking_cown, contents_of, read_cowns, write_cowns}
use Rattle.sb_calls.specs.Op.{op_of}
use Rattle.sb_calls.specs.FollowsProcedure.{FollowsProcedure}
use Rattle.sb_calls.specs.Procedures.{takes_too_much, check_cost}
use Rattle.sb_calls.specs.declared.call.Call.{Call}
use Rattle.sb_calls.specs.declared.call.Call.TheVariants.{Balance, DepositChecking, TransactSavings, Amalgamate, WriteCheck, SendPayment}
use Rattle.sb_calls.specs.declared.op.Op.{Op}
use Rattle.sb_calls.specs.declared.op.Op.TheVariants as ops
use Rattle.sb_calls.specs.declared.reply.Reply.{Reply}
use Rattle.sb_calls.specs.declared.reply.Reply.TheVariants as replies

-- an effect, written to the cowns, is the procedure
abbrev pub Effects : List (List ℕ) → Call → Balances → List ℕ → Reply × List ℤ → Type 0
Effects directory call b cowns effect = PerformsByCowns directory call b cowns effect.0 effect.1

-- an effect that leaves the contents
pub effect_leaves : (directory : List (List ℕ)) (call : Call) (b : Balances) (cowns : List ℕ) (reply : Reply) (contents : List ℤ)
    → FollowsProcedure directory call b b reply → contents ≡ read_cowns (contents_of b) cowns
    → Effects directory call b cowns (reply, contents)
effect_leaves directory call b cowns reply contents performs e =
    record { new = b; written = sym (ap (write_cowns (contents_of b) cowns) e ∙ write-read (contents_of b) cowns); performs = performs }

-- one of two effects
either_effect : (directory : List (List ℕ)) (call : Call) (b : Balances) (cowns : List ℕ) (test : Bool) (first second : Reply × List ℤ)
    → (test ≡ true → Effects directory call b cowns first) → (test ≡ false → Effects directory call b cowns second)
    → Effects directory call b cowns (cond test first second)
either_effect directory call b cowns true first second there elsewhere = there refl
either_effect directory call b cowns false first second there elsewhere = elsewhere refl

-- ---- sizes

-- past the limit, and below it
not_past : (v : ℤ) → int_lt LIMIT v ≡ true → ¬ IsWithinLimit v
not_past v past fits = grind (arith, ints, past, fits.at_most)

not_below : (v : ℤ) → int_lt v (neg_ℤ LIMIT) ≡ true → ¬ IsWithinLimit v
not_below v below fits = grind (arith, ints, below, fits.at_least)

-- what stays within it
deposit_within : (c amount : ℤ) → IsWithinLimit c → int_lt amount (pos 0) ≡ false → int_lt LIMIT (c +ℤ amount) ≡ false → IsWithinLimit (c +ℤ amount)
deposit_within c amount within ge le = record { at_least = grind (arith, ints, ge, within.at_least); at_most = grind (arith, ints, le) }

savings_within_limit : (v : ℤ) → int_lt v (pos 0) ≡ false → int_lt LIMIT v ≡ false → IsWithinLimit v
savings_within_limit v ge le = record { at_least = grind (arith, ints, ge); at_most = grind (arith, ints, le) }

check_within : (s c amount : ℤ) → IsWithinLimit c → int_lt amount (pos 0) ≡ false → int_lt (c -ℤ check_cost s c amount) (neg_ℤ LIMIT) ≡ false
    → IsWithinLimit (c -ℤ check_cost s c amount)
check_within s c amount within ge le =
    let not_negative : pos 0 ≤ℤ amount = grind (arith, ints, ge) in
    let bounds = cost_bounds s c amount in
    record { at_least = grind (arith, ints, le); at_most = omega (arith, ints, not_negative, bounds.0, within.at_most) }

-- ---- one customer

module _ {directory : List (List ℕ)} {b : Balances} {name : List ℕ} {place : ℕ} {s c : ℤ} (h : HasRow directory b name place s c) where
  -- what the cowns of the customer hold
  pub savings_is : get_or (contents_of b) (savings_cown place) (pos 0) ≡ s
  savings_is = contents_at_savings b place h.same.balances.same ∙ get_or_from_slice_get b.savings place s (pos 0) h.savings

  pub checking_is : get_or (contents_of b) (checking_cown place) (pos 0) ≡ c
  checking_is = contents_at_checking b place h.same.balances.same ∙ get_or_from_slice_get b.checking place c (pos 0) h.checking

  pub one_checking : c ∷ [] ≡ read_cowns (contents_of b) (checking_cown place ∷ [])
  one_checking = rw checking_is refl

  pub one_savings : s ∷ [] ≡ read_cowns (contents_of b) (savings_cown place ∷ [])
  one_savings = rw savings_is refl

  pub both : s ∷ c ∷ [] ≡ read_cowns (contents_of b) (savings_cown place ∷ checking_cown place ∷ [])
  both = rw (savings_is, checking_is) refl

  pub balance_effects : Effects directory (Balance name) b (savings_cown place ∷ checking_cown place ∷ []) (replies.Shown (s +ℤ c), s ∷ c ∷ [])
  balance_effects =
      effect_leaves directory (Balance name) b (savings_cown place ∷ checking_cown place ∷ []) (replies.Shown (s +ℤ c)) (s ∷ c ∷ []) (performs_balance h) both

  pub deposit_effects : (amount : ℤ) → Effects directory (DepositChecking name amount) b (checking_cown place ∷ []) (deposit_effect amount c)
  deposit_effects amount =
      let call = DepositChecking name amount in
      let cowns = checking_cown place ∷ [] in
      either_effect directory call b cowns (int_lt amount (pos 0)) _ _
      (λ lt. effect_leaves directory call b cowns replies.Negative (c ∷ []) (performs_negative h amount lt) one_checking) (λ ge.
      either_effect directory call b cowns (int_lt LIMIT (c +ℤ amount)) _ _
      (λ past. effect_leaves directory call b cowns replies.OverLimit (c ∷ []) (performs_over_limit h amount ge (not_past (c +ℤ amount) past)) one_checking)
      (λ le. record {
        new = with_checking b place (c +ℤ amount);
        written = contents_of-with_checking b place (c +ℤ amount);
        performs = performs_deposit h amount ge (deposit_within c amount (checking_within h) ge le);
      }))

  pub savings_effects : (amount : ℤ) → Effects directory (TransactSavings name amount) b (savings_cown place ∷ []) (savings_effect amount s)
  savings_effects amount =
      let call = TransactSavings name amount in
      let cowns = savings_cown place ∷ [] in
      either_effect directory call b cowns (int_lt (s +ℤ amount) (pos 0)) _ _
      (λ lt. effect_leaves directory call b cowns replies.WouldOverdraw (s ∷ []) (performs_overdraft h amount lt) one_savings) (λ ge.
      either_effect directory call b cowns (int_lt LIMIT (s +ℤ amount)) _ _
      (λ past. effect_leaves directory call b cowns replies.OverLimit (s ∷ [])
      (performs_savings_over_limit h amount ge (not_past (s +ℤ amount) past)) one_savings) (λ le. record {
        new = with_savings b place (s +ℤ amount);
        written = contents_of-with_savings b place (s +ℤ amount);
        performs = performs_savings h amount ge (savings_within_limit (s +ℤ amount) ge le);
      }))

  pub check_effects : (amount : ℤ) → Effects directory (WriteCheck name amount) b (savings_cown place ∷ checking_cown place ∷ []) (check_effect amount s c)
  check_effects amount =
      let call = WriteCheck name amount in
      let cowns = savings_cown place ∷ checking_cown place ∷ [] in
      let left = c -ℤ check_cost s c amount in
      either_effect directory call b cowns (int_lt amount (pos 0)) _ _
      (λ lt. effect_leaves directory call b cowns replies.Negative (s ∷ c ∷ []) (performs_check_negative h amount lt) both) (λ ge.
      either_effect directory call b cowns (int_lt left (neg_ℤ LIMIT)) _ _
      (λ past. effect_leaves directory call b cowns replies.OverLimit (s ∷ c ∷ []) (performs_check_over_limit h amount ge (not_below left past)) both)
      (λ le. record {
        new = with_checking b place left;
        written = contents_of-with_checking b place left ∙ sym (savings_kept (checking_cown place ∷ []) (left ∷ []));
        performs = performs_check h amount ge (check_within s c amount (checking_within h) ge le);
      }))
    where
      savings_kept : (cowns : List ℕ) (values : List ℤ)
          → write_cowns (contents_of b) (savings_cown place ∷ cowns) (s ∷ values) ≡ write_cowns (contents_of b) cowns values
      savings_kept cowns values =
          let same : slice_set (contents_of b) (savings_cown place) s ≡ contents_of b =
          rw (← savings_is) (set-get_or (contents_of b) (savings_cown place) (pos 0)) in
          ap (λ (contents : List ℤ). write_cowns contents cowns values) same

-- ---- two customers

-- both balances of a place are written to its cowns
contents_of-with_row : (b : Balances) (place : ℕ) (s c : ℤ)
    → contents_of (with_row b place s c) ≡ slice_set (slice_set (contents_of b) (savings_cown place) s) (checking_cown place) c
contents_of-with_row b place s c =
    contents_of-with_checking (with_savings b place s) place c
    ∙ ap (λ (contents : List ℤ). slice_set contents (checking_cown place) c) (contents_of-with_savings b place s)

-- the balances after an amalgamation
abbrev balances_after_amalgamation : Balances → ℕ → ℕ → ℤ → Balances
balances_after_amalgamation b p q sum = with_checking (with_row b p (pos 0) (pos 0)) q sum

-- the giver's cowns are written first, and then the taker's
written_giver_first : (b : Balances) (p q : ℕ) (sum : ℤ)
    → contents_of (balances_after_amalgamation b p q sum)
    ≡ slice_set (slice_set (slice_set (contents_of b) (savings_cown p) (pos 0)) (checking_cown p) (pos 0)) (checking_cown q) sum
written_giver_first b p q sum =
    contents_of-with_checking (with_row b p (pos 0) (pos 0)) q sum
    ∙ ap (λ (contents : List ℤ). slice_set contents (checking_cown q) sum) (contents_of-with_row b p (pos 0) (pos 0))

-- or the other way round: the cowns are different
written_taker_first : (b : Balances) (p q : ℕ) (sum : ℤ) → p ≢ q
    → contents_of (balances_after_amalgamation b p q sum)
    ≡ slice_set (slice_set (slice_set (contents_of b) (checking_cown q) sum) (savings_cown p) (pos 0)) (checking_cown p) (pos 0)
written_taker_first b p q sum differs =
    let apart : checking_cown p ≢ checking_cown q = omega (arith, differs) in
    let other : savings_cown p ≢ checking_cown q = omega arith in
    written_giver_first b p q sum
    ∙ set_comm (slice_set (contents_of b) (savings_cown p) (pos 0)) (checking_cown p) (checking_cown q) (pos 0) sum apart
    ∙ ap (λ (contents : List ℤ). slice_set contents (checking_cown p) (pos 0)) (set_comm (contents_of b) (savings_cown p) (checking_cown q) (pos 0) sum other)

-- a sum that is too much isn't within the limit
sum_past : (v : ℤ) → takes_too_much v ≡ true → ¬ IsWithinLimit v
sum_past v e fits = both_ways (takes_too_much v) (within_limit v fits) e

module _ {directory : List (List ℕ)} {b : Balances} {from to : List ℕ} {p q : ℕ} {s c s_to c_to : ℤ} (giver : HasRow directory b from p s c)
    (taker : HasRow directory b to q s_to c_to) (differs : p ≢ q) where
  pub giver_first : s ∷ c ∷ c_to ∷ [] ≡ read_cowns (contents_of b) (savings_cown p ∷ checking_cown p ∷ checking_cown q ∷ [])
  giver_first = rw (savings_is giver, checking_is giver, checking_is taker) refl

  pub taker_first : c_to ∷ s ∷ c ∷ [] ≡ read_cowns (contents_of b) (checking_cown q ∷ savings_cown p ∷ checking_cown p ∷ [])
  taker_first = rw (savings_is giver, checking_is giver, checking_is taker) refl

  pub giver_first_effects : Effects directory (Amalgamate from to) b (savings_cown p ∷ checking_cown p ∷ checking_cown q ∷ []) (giver_first_effect s c c_to)
  giver_first_effects =
      let call = Amalgamate from to in
      let cowns = savings_cown p ∷ checking_cown p ∷ checking_cown q ∷ [] in
      let sum = (c_to +ℤ s) +ℤ c in
      either_effect directory call b cowns (takes_too_much sum) _ _
      (λ past. effect_leaves directory call b cowns replies.OverLimit (s ∷ c ∷ c_to ∷ [])
      (performs_amalgamate_over_limit giver taker differs (sum_past sum past)) giver_first) (λ fits. record {
        new = balances_after_amalgamation b p q sum;
        written = written_giver_first b p q sum;
        performs = performs_amalgamate giver taker differs (sum_within sum fits);
      })

  pub taker_first_effects : Effects directory (Amalgamate from to) b (checking_cown q ∷ savings_cown p ∷ checking_cown p ∷ []) (taker_first_effect c_to s c)
  taker_first_effects =
      let call = Amalgamate from to in
      let cowns = checking_cown q ∷ savings_cown p ∷ checking_cown p ∷ [] in
      let sum = (c_to +ℤ s) +ℤ c in
      either_effect directory call b cowns (takes_too_much sum) _ _
      (λ past. effect_leaves directory call b cowns replies.OverLimit (c_to ∷ s ∷ c ∷ [])
      (performs_amalgamate_over_limit giver taker differs (sum_past sum past)) taker_first) (λ fits. record {
        new = balances_after_amalgamation b p q sum;
        written = written_taker_first b p q sum differs;
        performs = performs_amalgamate giver taker differs (sum_within sum fits);
      })

  -- an amalgamation on these cowns and what they hold
  amalgamation_effects_at : (cowns : List ℕ) (values : List ℤ) → amalgamation_cowns p q ≡ cowns → values ≡ read_cowns (contents_of b) cowns
      → Effects directory (Amalgamate from to) b cowns (amalgamation_effect p q values)
      → Effects directory (Amalgamate from to) b (amalgamation_cowns p q) (amalgamation_effect p q (read_cowns (contents_of b) (amalgamation_cowns p q)))
  amalgamation_effects_at cowns values is e effects =
      subst (λ (l : List ℕ). Effects directory (Amalgamate from to) b l (amalgamation_effect p q (read_cowns (contents_of b) l))) (sym is)
      (subst (λ (contents : List ℤ). Effects directory (Amalgamate from to) b cowns (amalgamation_effect p q contents)) e effects)

  -- whichever comes first
  pub amalgamation_effects : Effects directory (Amalgamate from to) b (amalgamation_cowns p q)
      (amalgamation_effect p q (read_cowns (contents_of b) (amalgamation_cowns p q)))
  amalgamation_effects = by (cases_lt p q)
    where
      by : (p < q) ⊎ (q ≤ p) → Effects directory (Amalgamate from to) b (amalgamation_cowns p q)
          (amalgamation_effect p q (read_cowns (contents_of b) (amalgamation_cowns p q)))
      by (inl lt) = amalgamation_effects_at (savings_cown p ∷ checking_cown p ∷ checking_cown q ∷ []) (s ∷ c ∷ c_to ∷ []) (cowns_giver_first p q lt) giver_first
          (rw (effect_giver_first p q (s ∷ c ∷ c_to ∷ []) lt) giver_first_effects)
      by (inr le) =
          let lt : q < p = omega (arith, differs) in
          amalgamation_effects_at (checking_cown q ∷ savings_cown p ∷ checking_cown p ∷ []) (c_to ∷ s ∷ c ∷ []) (cowns_taker_first p q lt) taker_first
          (rw (effect_taker_first p q (c_to ∷ s ∷ c ∷ []) lt) taker_first_effects)

-- ---- payments

-- the payer's cown is written first, and then the payee's
written_payer_first : (b : Balances) (p q : ℕ) (left received : ℤ)
    → contents_of (balances_after_payment b p q left received) ≡ slice_set (slice_set (contents_of b) (checking_cown p) left) (checking_cown q) received
written_payer_first b p q left received =
    contents_of-with_checking (with_checking b p left) q received
    ∙ ap (λ (contents : List ℤ). slice_set contents (checking_cown q) received) (contents_of-with_checking b p left)

-- or the other way round: the cowns are different
written_payee_first : (b : Balances) (p q : ℕ) (left received : ℤ) → p ≢ q
    → contents_of (balances_after_payment b p q left received) ≡ slice_set (slice_set (contents_of b) (checking_cown q) received) (checking_cown p) left
written_payee_first b p q left received differs =
    let apart : checking_cown p ≢ checking_cown q = omega (arith, differs) in
    written_payer_first b p q left received ∙ set_comm (contents_of b) (checking_cown p) (checking_cown q) left received apart

module _ {directory : List (List ℕ)} {b : Balances} {from to : List ℕ} {p q : ℕ} {s c s_to c_to : ℤ} (payer : HasRow directory b from p s c)
    (payee : HasRow directory b to q s_to c_to) (differs : p ≢ q) (amount : ℤ) where
  pub payer_first : c ∷ c_to ∷ [] ≡ read_cowns (contents_of b) (checking_cown p ∷ checking_cown q ∷ [])
  payer_first = rw (checking_is payer, checking_is payee) refl

  pub payee_first : c_to ∷ c ∷ [] ≡ read_cowns (contents_of b) (checking_cown q ∷ checking_cown p ∷ [])
  payee_first = rw (checking_is payer, checking_is payee) refl

  pub payer_first_effects : Effects directory (SendPayment from to amount) b (checking_cown p ∷ checking_cown q ∷ []) (payer_first_effect amount c c_to)
  payer_first_effects =
      let call = SendPayment from to amount in
      let cowns = checking_cown p ∷ checking_cown q ∷ [] in
      in_each_payment (λ after. Effects directory call b cowns (after.0, after.1 ∷ after.2 ∷ [])) amount c c_to
      (λ below. effect_leaves directory call b cowns replies.Negative (c ∷ c_to ∷ []) (performs_payment_negative payer payee differs amount below) payer_first)
      (λ ge poor. effect_leaves directory call b cowns replies.WouldOverdraw (c ∷ c_to ∷ [])
      (performs_payment_overdraft payer payee differs amount ge poor) payer_first)
      (λ ge enough past. effect_leaves directory call b cowns replies.OverLimit (c ∷ c_to ∷ [])
      (performs_payment_over_limit payer payee differs amount ge enough past) payer_first)
      (λ ge enough le. record {
        new = balances_after_payment b p q (c -ℤ amount) (c_to +ℤ amount);
        written = written_payer_first b p q (c -ℤ amount) (c_to +ℤ amount);
        performs = performs_payment payer payee differs amount ge enough le;
      })

  pub payee_first_effects : Effects directory (SendPayment from to amount) b (checking_cown q ∷ checking_cown p ∷ []) (payee_first_effect amount c_to c)
  payee_first_effects =
      let call = SendPayment from to amount in
      let cowns = checking_cown q ∷ checking_cown p ∷ [] in
      in_each_payment (λ after. Effects directory call b cowns (after.0, after.2 ∷ after.1 ∷ [])) amount c c_to
      (λ below. effect_leaves directory call b cowns replies.Negative (c_to ∷ c ∷ []) (performs_payment_negative payer payee differs amount below) payee_first)
      (λ ge poor. effect_leaves directory call b cowns replies.WouldOverdraw (c_to ∷ c ∷ [])
      (performs_payment_overdraft payer payee differs amount ge poor) payee_first)
      (λ ge enough past. effect_leaves directory call b cowns replies.OverLimit (c_to ∷ c ∷ [])
      (performs_payment_over_limit payer payee differs amount ge enough past) payee_first)
      (λ ge enough le. record {
        new = balances_after_payment b p q (c -ℤ amount) (c_to +ℤ amount);
        written = written_payee_first b p q (c -ℤ amount) (c_to +ℤ amount) differs;
        performs = performs_payment payer payee differs amount ge enough le;
      })

  -- a payment on these cowns and what they hold
  payment_effects_at : (cowns : List ℕ) (values : List ℤ) → payment_cowns p q ≡ cowns → values ≡ read_cowns (contents_of b) cowns
      → Effects directory (SendPayment from to amount) b cowns (payment_effect p q amount values)
      → Effects directory (SendPayment from to amount) b (payment_cowns p q) (payment_effect p q amount (read_cowns (contents_of b) (payment_cowns p q)))
  payment_effects_at cowns values is e effects =
      subst (λ (l : List ℕ). Effects directory (SendPayment from to amount) b l (payment_effect p q amount (read_cowns (contents_of b) l))) (sym is)
      (subst (λ (contents : List ℤ). Effects directory (SendPayment from to amount) b cowns (payment_effect p q amount contents)) e effects)

  -- whichever comes first
  pub payment_effects : Effects directory (SendPayment from to amount) b (payment_cowns p q)
      (payment_effect p q amount (read_cowns (contents_of b) (payment_cowns p q)))
  payment_effects = by (cases_lt p q)
    where
      by : (p < q) ⊎ (q ≤ p)
          → Effects directory (SendPayment from to amount) b (payment_cowns p q)
          (payment_effect p q amount (read_cowns (contents_of b) (payment_cowns p q)))
      by (inl lt) = payment_effects_at (checking_cown p ∷ checking_cown q ∷ []) (c ∷ c_to ∷ []) (cowns_payer_first p q lt) payer_first
          (rw (effect_payer_first p q amount (c ∷ c_to ∷ []) lt) payer_first_effects)
      by (inr le) =
          let lt : q < p = omega (arith, differs) in
          payment_effects_at (checking_cown q ∷ checking_cown p ∷ []) (c_to ∷ c ∷ []) (cowns_payee_first p q lt) payee_first
          (rw (effect_payee_first p q amount (c_to ∷ c ∷ []) lt) payee_first_effects)

-- ---- any op

-- a customer whose name has a place has a row
row_at : (directory : List (List ℕ)) (b : Balances) (name : List ℕ) (place : ℕ) → SameCustomers directory b → place_of directory name ≡ Some place
    → HasRow directory b name place (get_or b.savings place (pos 0)) (get_or b.checking place (pos 0))
row_at directory b name place same found =
    let lt = place_of_within directory name place found in
    HasRow-unread directory b name place same found (omega (arith, same.same_length))

-- the effect of an op on what its cowns hold, if that is these values
on_values : (directory : List (List ℕ)) (b : Balances) (call : Call) (op : Op) (values : List ℤ) → values ≡ read_cowns (contents_of b) (declared_cowns op)
    → Effects directory call b (declared_cowns op) (effect_of op values)
    → Effects directory call b (declared_cowns op) (effect_of op (read_cowns (contents_of b) (declared_cowns op)))
on_values directory b call op values e effects = subst (λ (contents : List ℤ). Effects directory call b (declared_cowns op) (effect_of op contents)) e effects

pub effect_performs : (directory : List (List ℕ)) (b : Balances) (call : Call) (op : Op) → SameCustomers directory b → op ≡ op_of directory call
    → Effects directory call b (declared_cowns op) (effect_of op (read_cowns (contents_of b) (declared_cowns op)))
effect_performs directory b call (ops.Balance place) same e =
    let made = comes_from directory call (ops.Balance place) e in
    let row = row_at directory b made.0 place same made.2 in
    rw (made.1) (on_values directory b (Balance made.0) (ops.Balance place) _ (both row) (balance_effects row))
effect_performs directory b call (ops.DepositChecking place amount) same e =
    let made = comes_from directory call (ops.DepositChecking place amount) e in
    let row = row_at directory b made.0 place same made.2 in
    rw (made.1) (on_values directory b (DepositChecking made.0 amount) (ops.DepositChecking place amount) _ (one_checking row) (deposit_effects row amount))
effect_performs directory b call (ops.TransactSavings place amount) same e =
    let made = comes_from directory call (ops.TransactSavings place amount) e in
    let row = row_at directory b made.0 place same made.2 in
    rw (made.1) (on_values directory b (TransactSavings made.0 amount) (ops.TransactSavings place amount) _ (one_savings row) (savings_effects row amount))
effect_performs directory b call (ops.Amalgamate places) same e =
    let made = comes_from directory call (ops.Amalgamate places) e in
    rw (made.2) (amalgamation_effects (row_at directory b made.0 places.0 same made.3) (row_at directory b made.1 places.1 same made.4) made.5)
effect_performs directory b call (ops.WriteCheck place amount) same e =
    let made = comes_from directory call (ops.WriteCheck place amount) e in
    let row = row_at directory b made.0 place same made.2 in
    rw (made.1) (on_values directory b (WriteCheck made.0 amount) (ops.WriteCheck place amount) _ (both row) (check_effects row amount))
effect_performs directory b call (ops.SendPayment places amount) same e =
    let made = comes_from directory call (ops.SendPayment places amount) e in
    rw (made.2) (payment_effects (row_at directory b made.0 places.0 same made.3) (row_at directory b made.1 places.1 same made.4) made.5 amount)
effect_performs directory b call ops.NoCustomer same e =
    effect_leaves directory call b [] replies.NoCustomer [] (performs_no_customer directory call b same e) refl
effect_performs directory b call ops.SameCustomer same e =
    effect_leaves directory call b [] replies.SameCustomer [] (performs_same_customer directory call b same e) refl
