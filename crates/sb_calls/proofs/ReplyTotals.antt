-- Each reply of a log run one by one has a spelling.
use Rattle.std.proofs.Common.{◌≡◌, inl, inr, ℕ, zero, suc, ℤ, pos, ◌+ℤ◌, Bool, true, false, Option, Some, None, List, [], ◌∷◌, length, take, sym, subst, arith}
use Rattle.std.specs.Prelude.{◌==◌, nat_lt, neg_ℤ, ◌-ℤ◌, int_lt, if◌then◌else◌, slice_get, option_map}
use Rattle.std.proofs.lemmas.Bool.{cases_lt}
use Rattle.std.proofs.lemmas.Int.{ints}
use Rattle.std.proofs.lemmas.List.{get_or_past}
use Rattle.sb_amount.specs.declared.cents.TheConstants.{LIMIT}
use Rattle.sb_calls.specs.Behaviour.{declared_cowns, effect_of, on_one_value, on_two_values, on_three_values, deposit_effect, savings_effect, check_effect, giver_first_effect, taker_first_effect, payment, payer_first_effect, payee_first_effect, amalgamation_effect, payment_effect}
use Rattle.sb_calls.specs.inner.BehaviourLaws.{effect_in_range, zero_in_range, in_each_payment}
use Rattle.sb_calls.specs.Cowns.{IsContents, AreCownValues, IsCownValue, read_cowns, savings_cown, checking_cown}
use Rattle.sb_calls.specs.SerialRun.{contents_after, contents_after_first, contents_after_one, reply_of, reply_by_log}
use Rattle.sb_calls.specs.Procedures.{takes_too_much, check_cost}
use Rattle.sb_calls.specs.Replies.{IsReply}
use Rattle.sb_calls.specs.declared.op.Op.{Op}
use Rattle.sb_calls.specs.declared.op.Op.TheVariants.{Balance, DepositChecking, TransactSavings, Amalgamate, WriteCheck, SendPayment, NoCustomer, SameCustomer}
use Rattle.sb_calls.specs.declared.reply.Reply.{Reply}
use Rattle.sb_calls.specs.declared.reply.Reply.TheVariants as replies
use Rattle.sb_calls.proofs.CownContents.{IsContents-write}

-- ---- an op's reply

abbrev Fits : Reply × List ℤ → Type 0
Fits answer = IsReply answer.0

one_replies : (effect : ℤ → Reply × List ℤ) → ((v : ℤ) → IsReply (effect v).0) → (inputs : List ℤ) → IsReply (on_one_value effect inputs).0
one_replies effect h [] = tt
one_replies effect h (v ∷ []) = h v
one_replies effect h (v ∷ w ∷ more) = tt

two_replies : (effect : ℤ → ℤ → Reply × List ℤ) → ((v w : ℤ) → IsReply (effect v w).0) → (inputs : List ℤ) → IsReply (on_two_values effect inputs).0
two_replies effect h [] = tt
two_replies effect h (v ∷ []) = tt
two_replies effect h (v ∷ w ∷ []) = h v w
two_replies effect h (v ∷ w ∷ x ∷ more) = tt

three_replies : (effect : ℤ → ℤ → ℤ → Reply × List ℤ) → ((v w x : ℤ) → IsReply (effect v w x).0) → (inputs : List ℤ)
    → IsReply (on_three_values effect inputs).0
three_replies effect h [] = tt
three_replies effect h (v ∷ []) = tt
three_replies effect h (v ∷ w ∷ []) = tt
three_replies effect h (v ∷ w ∷ x ∷ []) = h v w x
three_replies effect h (v ∷ w ∷ x ∷ y ∷ more) = tt

deposit_replies : (amount v : ℤ) → IsReply (deposit_effect amount v).0
deposit_replies amount v = by (int_lt amount (pos 0)) (int_lt LIMIT (v +ℤ amount))
  where
    by : (a b : Bool) → Fits (if a then (replies.Negative, v ∷ []) else if b then (replies.OverLimit, v ∷ [])
        else (replies.Done, (v +ℤ amount) ∷ []))
    by true b = tt
    by false true = tt
    by false false = tt

savings_replies : (amount v : ℤ) → IsReply (savings_effect amount v).0
savings_replies amount v = by (int_lt (v +ℤ amount) (pos 0)) (int_lt LIMIT (v +ℤ amount))
  where
    by : (a b : Bool) → Fits (if a then (replies.WouldOverdraw, v ∷ []) else if b then (replies.OverLimit, v ∷ [])
        else (replies.Done, (v +ℤ amount) ∷ []))
    by true b = tt
    by false true = tt
    by false false = tt

check_replies : (amount v w : ℤ) → IsReply (check_effect amount v w).0
check_replies amount v w =
    by (int_lt amount (pos 0)) (int_lt (w -ℤ check_cost v w amount) (neg_ℤ LIMIT)) (int_lt (v +ℤ w) amount)
  where
    by : (a b c : Bool) → Fits (if a then (replies.Negative, v ∷ w ∷ []) else if b then (replies.OverLimit, v ∷ w ∷ [])
        else (if c then replies.Penalised else replies.Done, v ∷ (w -ℤ check_cost v w amount) ∷ []))
    by true b c = tt
    by false true c = tt
    by false false true = tt
    by false false false = tt

giver_first_replies : (v w x : ℤ) → IsReply (giver_first_effect v w x).0
giver_first_replies v w x = by (takes_too_much ((x +ℤ v) +ℤ w))
  where
    by : (a : Bool) → Fits (if a then (replies.OverLimit, v ∷ w ∷ x ∷ [])
        else (replies.Done, pos 0 ∷ pos 0 ∷ ((x +ℤ v) +ℤ w) ∷ []))
    by true = tt
    by false = tt

taker_first_replies : (v w x : ℤ) → IsReply (taker_first_effect v w x).0
taker_first_replies v w x = by (takes_too_much ((v +ℤ w) +ℤ x))
  where
    by : (a : Bool) → Fits (if a then (replies.OverLimit, v ∷ w ∷ x ∷ [])
        else (replies.Done, ((v +ℤ w) +ℤ x) ∷ pos 0 ∷ pos 0 ∷ []))
    by true = tt
    by false = tt

amalgamation_replies : (from to : ℕ) (inputs : List ℤ) → IsReply (amalgamation_effect from to inputs).0
amalgamation_replies from to inputs = by (from == to) (nat_lt from to)
  where
    by : (one before : Bool) → Fits (if one then (replies.SameCustomer, inputs)
        else if before then on_three_values giver_first_effect inputs else on_three_values taker_first_effect inputs)
    by true before = tt
    by false true = three_replies giver_first_effect giver_first_replies inputs
    by false false = three_replies taker_first_effect taker_first_replies inputs

payment_replies : (amount c r : ℤ) → IsReply (payment amount c r).0
payment_replies amount c r =
    in_each_payment (λ after. IsReply after.0) amount c r (λ below. tt) (λ ge poor. tt) (λ ge enough past. tt) (λ ge enough le. tt)

paying_replies : (from to : ℕ) (amount : ℤ) (inputs : List ℤ) → IsReply (payment_effect from to amount inputs).0
paying_replies from to amount inputs = by (from == to) (nat_lt from to)
  where
    by : (one before : Bool) → Fits (if one then (replies.SameCustomer, inputs)
        else if before then on_two_values (payer_first_effect amount) inputs else on_two_values (payee_first_effect amount) inputs)
    by true before = tt
    by false true = two_replies (payer_first_effect amount) (λ c r. payment_replies amount c r) inputs
    by false false = two_replies (payee_first_effect amount) (λ r c. payment_replies amount c r) inputs

-- the sum of two balances
shown_fits : (place : ℕ) (inputs : List ℤ) → AreCownValues (savings_cown place ∷ checking_cown place ∷ []) inputs
    → IsReply (effect_of (Balance place) inputs).0
shown_fits place [] contents = tt
shown_fits place (s ∷ []) contents = tt
shown_fits place (s ∷ c ∷ []) contents =
    let low_s = contents.0.within.at_least in
    let high_s = contents.0.within.at_most in
    let low_c = contents.1.0.within.at_least in
    let high_c = contents.1.0.within.at_most in
    record { at_least = omega (arith, ints); at_most = omega (arith, ints) }
shown_fits place (s ∷ c ∷ x ∷ more) contents = tt

reply_fits : (op : Op) (inputs : List ℤ) → AreCownValues (declared_cowns op) inputs → IsReply (effect_of op inputs).0
reply_fits (Balance place) inputs contents = shown_fits place inputs contents
reply_fits (DepositChecking place amount) inputs contents =
    one_replies (deposit_effect amount) (deposit_replies amount) inputs
reply_fits (TransactSavings place amount) inputs contents =
    one_replies (savings_effect amount) (savings_replies amount) inputs
reply_fits (Amalgamate places) inputs contents = amalgamation_replies places.0 places.1 inputs
reply_fits (WriteCheck place amount) inputs contents =
    two_replies (check_effect amount) (check_replies amount) inputs
reply_fits (SendPayment places amount) inputs contents = paying_replies places.0 places.1 amount inputs
reply_fits NoCustomer inputs contents = tt
reply_fits SameCustomer inputs contents = tt

-- ---- a log

-- if all cowns hold allowed values, so does every read: past the last cown it is 0
read_cown_values : (contents : List ℤ) (cowns : List ℕ) → IsContents contents → AreCownValues cowns (read_cowns contents cowns)
read_cown_values contents [] all = tt
read_cown_values contents (c ∷ cowns) all = (
  elim (cases_lt c (length contents)) [
    | inl lt ↦ all c lt
    | inr past ↦ subst (IsCownValue c) (sym (get_or_past contents c (pos 0) past)) (zero_in_range c)
  ],
  read_cown_values contents cowns all,
)

log_in_range : (contents : List ℤ) (log : List Op) → IsContents contents → IsContents (contents_after declared_cowns effect_of contents log)
log_in_range contents [] all = all
log_in_range contents (op ∷ log) all =
    log_in_range (contents_after_one declared_cowns effect_of contents op) log
    (IsContents-write contents (declared_cowns op) _ all (effect_in_range op _ (read_cown_values contents (declared_cowns op) all)))

some_is : {A : Type 0} {x y : A} → ◌≡◌ {A = Option A} (Some x) (Some y) → x ≡ y
some_is h = cc

of_one_op : (contents : List ℤ) (op : Option Op) (reply : Reply) → IsContents contents
    → option_map (reply_of declared_cowns effect_of contents) op ≡ Some reply → IsReply reply
of_one_op contents None reply all e = absurd cc
of_one_op contents (Some op) reply all e =
    subst IsReply (some_is e) (reply_fits op _ (read_cown_values contents (declared_cowns op) all))

-- each reply of a log, if the cowns hold allowed values at the start
pub replies_fit : (opening : List ℤ) (log : List Op) (n : ℕ) (reply : Reply) → IsContents opening
    → reply_by_log declared_cowns effect_of opening log n ≡ Some reply → IsReply reply
replies_fit opening log zero reply all e = absurd cc
replies_fit opening log (suc k) reply all e =
    of_one_op (contents_after_first declared_cowns effect_of opening log k) (slice_get log k) reply
    (log_in_range opening (take k log) all) e
