-- The laws of an op as a behaviour.
use Rattle.std.specs.Prelude.{◌≡◌, ◌↔◌, ◌≤◌, ◌==◌, nat_lt, ℕ, ℤ, pos, neg_ℤ, ◌+ℤ◌, ◌-ℤ◌, ◌≤ℤ◌, int_lt, Bool, true, false, ◌&&◌, if◌then◌else◌, refl, List, [], ◌∷◌, length}
use Rattle.std.specs.Bool.{Decides}
use Rattle.std.specs.Int.Signed.{le_z_yes}
use Rattle.std.specs.Ordering.{int_eq}
use Rattle.std.proofs.Common.{ap, sym, ◌∙◌}
use Rattle.std.proofs.Math.Dec.{lit≤}
use Rattle.std.proofs.lemmas.Bool.{both_ways, or_parts}
use Rattle.std.proofs.lemmas.Bool.Decides.{Decides-and, Decides-eqb, Decides-int_eq, Decides-like}
use Rattle.sb_amount.specs.Limit.{IsWithinLimit}
use Rattle.sb_amount.specs.declared.cents.TheConstants.{LIMIT}
use Rattle.sb_calls.specs.Behaviour.{amalgamation_cowns, payment_cowns, declared_cowns, deposit_effect, savings_effect, check_effect, giver_first_effect, taker_first_effect, payment, payer_first_effect, payee_first_effect, on_one_value, on_two_values, on_three_values, amalgamation_effect, payment_effect, effect_of}
use Rattle.sb_calls.specs.inner.Bounds.{at_least, sum_above, difference_below, more_not_negative, not_negative_above, next_above, later_checking_above, later_savings_above, other_first, remainder_above, checking_cown_odd}
use Rattle.sb_calls.specs.Cowns.{savings_cown, checking_cown, IsRising, IsCownValue, AreCownValues}
use Rattle.sb_calls.specs.Procedures.{takes_too_much, check_cost}
use Rattle.sb_calls.specs.contracts.op.OpPartialEq.TheImpl as same
use Rattle.sb_calls.specs.declared.op.Op.{Op}
use Rattle.sb_calls.specs.declared.op.Op.TheVariants.{Balance, DepositChecking, TransactSavings, Amalgamate, WriteCheck, SendPayment, NoCustomer, SameCustomer}
use Rattle.sb_calls.specs.declared.reply.Reply.{Reply}
use Rattle.sb_calls.specs.declared.reply.Reply.TheVariants as replies

-- ---- comparing

-- comparing a place and an amount decides whether both are equal
place_and_amount : (p q : ℕ) (a b : ℤ) → Decides ((p == q) && int_eq a b) ((p ≡ q) × (a ≡ b))
place_and_amount p q a b = Decides-and (p == q) (int_eq a b) (Decides-eqb p q) (Decides-int_eq a b)

-- and the same for two places
two_places : (p q : ℕ × ℕ) → Decides ((p.0 == q.0) && (p.1 == q.1)) ((p.0 ≡ q.0) × (p.1 ≡ q.1))
two_places p q = Decides-and (p.0 == q.0) (p.1 == q.1) (Decides-eqb p.0 q.0) (Decides-eqb p.1 q.1)

-- the parts of an op: its kind, its place, its two places and its amount, if it has them
abbrev kind_of : Op → ℕ
kind_of (Balance place) = 0
kind_of (DepositChecking place amount) = 1
kind_of (TransactSavings place amount) = 2
kind_of (Amalgamate places) = 3
kind_of (WriteCheck place amount) = 4
kind_of (SendPayment places amount) = 5
kind_of NoCustomer = 6
kind_of SameCustomer = 7

abbrev place_in : Op → ℕ
place_in (Balance place) = place
place_in (DepositChecking place amount) = place
place_in (TransactSavings place amount) = place
place_in (Amalgamate places) = 0
place_in (WriteCheck place amount) = place
place_in (SendPayment places amount) = 0
place_in NoCustomer = 0
place_in SameCustomer = 0

abbrev places_in : Op → ℕ × ℕ
places_in (Balance place) = (0, 0)
places_in (DepositChecking place amount) = (0, 0)
places_in (TransactSavings place amount) = (0, 0)
places_in (Amalgamate places) = places
places_in (WriteCheck place amount) = (0, 0)
places_in (SendPayment places amount) = places
places_in NoCustomer = (0, 0)
places_in SameCustomer = (0, 0)

abbrev amount_in : Op → ℤ
amount_in (Balance place) = pos 0
amount_in (DepositChecking place amount) = amount
amount_in (TransactSavings place amount) = amount
amount_in (Amalgamate places) = pos 0
amount_in (WriteCheck place amount) = amount
amount_in (SendPayment places amount) = amount
amount_in NoCustomer = pos 0
amount_in SameCustomer = pos 0

-- ops made of a place and an amount are equal exactly if both parts are
made_alike : (op : ℕ → ℤ → Op) (p q : ℕ) (a b : ℤ) → (p ≡ q) × (a ≡ b) → op p a ≡ op q b
made_alike op p q a b e = ap (λ (x : ℕ). op x a) e.0 ∙ ap (op q) e.1

-- ops compare as equal exactly if they are equal
pub same_op : (a b : Op) → (same.ghosts.eq a b ≡ true) ↔ (a ≡ b)
same_op (Balance p) (Balance q) =
    Decides-like {P = p ≡ q} {Q = Balance p ≡ Balance q} (p == q) (λ e. ap Balance e) (λ e. ap place_in e)
    (Decides-eqb p q)
same_op (DepositChecking p a) (DepositChecking q b) =
    Decides-like {P = (p ≡ q) × (a ≡ b)} {Q = DepositChecking p a ≡ DepositChecking q b} ((p == q) && int_eq a b)
    (made_alike DepositChecking p q a b) (λ e. (ap place_in e, ap amount_in e)) (place_and_amount p q a b)
same_op (TransactSavings p a) (TransactSavings q b) =
    Decides-like {P = (p ≡ q) × (a ≡ b)} {Q = TransactSavings p a ≡ TransactSavings q b} ((p == q) && int_eq a b)
    (made_alike TransactSavings p q a b) (λ e. (ap place_in e, ap amount_in e)) (place_and_amount p q a b)
same_op (WriteCheck p a) (WriteCheck q b) =
    Decides-like {P = (p ≡ q) × (a ≡ b)} {Q = WriteCheck p a ≡ WriteCheck q b} ((p == q) && int_eq a b)
    (made_alike WriteCheck p q a b) (λ e. (ap place_in e, ap amount_in e)) (place_and_amount p q a b)
same_op (Amalgamate p) (Amalgamate q) =
    Decides-like {P = (p.0 ≡ q.0) × (p.1 ≡ q.1)} {Q = Amalgamate p ≡ Amalgamate q} ((p.0 == q.0) && (p.1 == q.1))
    (λ e. ap Amalgamate (ap (λ x. (x, p.1)) e.0 ∙ ap (λ y. (q.0, y)) e.1))
    (λ e. (ap (λ op. (places_in op).0) e, ap (λ op. (places_in op).1) e)) (two_places p q)
same_op (SendPayment p a) (SendPayment q b) =
    Decides-like {P = ((p.0 ≡ q.0) × (p.1 ≡ q.1)) × (a ≡ b)} {Q = SendPayment p a ≡ SendPayment q b}
    (((p.0 == q.0) && (p.1 == q.1)) && int_eq a b)
    (λ e. ap (λ x. SendPayment (x, p.1) a) e.0.0 ∙ ap (λ y. SendPayment (q.0, y) a) e.0.1 ∙ ap (SendPayment q) e.1)
    (λ e. ((ap (λ op. (places_in op).0) e, ap (λ op. (places_in op).1) e), ap amount_in e))
    (Decides-and ((p.0 == q.0) && (p.1 == q.1)) (int_eq a b) (two_places p q) (Decides-int_eq a b))
same_op NoCustomer NoCustomer = ((λ e. refl), (λ e. refl))
same_op SameCustomer SameCustomer = ((λ e. refl), (λ e. refl))
same_op a b = ((λ e. absurd (both_ways false refl e)), (λ e. sym (ap (λ op. kind_of a == kind_of op) e)))

-- ---- declaring

-- the cowns of an amalgamation rise, whichever customer comes first
amalgamation_cowns_rise : (from to : ℕ) → IsRising (amalgamation_cowns from to)
amalgamation_cowns_rise from to = by (from == to) (nat_lt from to) refl refl
  where
    by : (one before : Bool) → (from == to) ≡ one → nat_lt from to ≡ before
        → IsRising (if one then [] else if before then savings_cown from ∷ checking_cown from ∷ checking_cown to ∷ []
        else checking_cown to ∷ savings_cown from ∷ checking_cown from ∷ [])
    by true before e l = tt
    by false true e l = (next_above (savings_cown from), (later_checking_above from to l, tt))
    by false false e l = (later_savings_above from to e l, (next_above (savings_cown from), tt))

-- and so do those of a payment
payment_cowns_rise : (from to : ℕ) → IsRising (payment_cowns from to)
payment_cowns_rise from to = by (from == to) (nat_lt from to) refl refl
  where
    by : (one before : Bool) → (from == to) ≡ one → nat_lt from to ≡ before
        → IsRising (if one then [] else if before then checking_cown from ∷ checking_cown to ∷ []
        else checking_cown to ∷ checking_cown from ∷ [])
    by true before e l = tt
    by false true e l = (later_checking_above from to l, tt)
    by false false e l = (later_checking_above to from (other_first from to e l), tt)

pub declared_cowns_rise : (op : Op) → IsRising (declared_cowns op)
declared_cowns_rise (Balance place) = (next_above (savings_cown place), tt)
declared_cowns_rise (DepositChecking place amount) = tt
declared_cowns_rise (TransactSavings place amount) = tt
declared_cowns_rise (Amalgamate places) = amalgamation_cowns_rise places.0 places.1
declared_cowns_rise (WriteCheck place amount) = (next_above (savings_cown place), tt)
declared_cowns_rise (SendPayment places amount) = payment_cowns_rise places.0 places.1
declared_cowns_rise NoCustomer = tt
declared_cowns_rise SameCustomer = tt

-- an amalgamation has three cowns, or none if the two customers are the same
amalgamation_cowns_limit : (from to : ℕ) → length (amalgamation_cowns from to) ≤ 3
amalgamation_cowns_limit from to = by (from == to) (nat_lt from to)
  where
    by : (one before : Bool)
        → length (if one then [] else if before then savings_cown from ∷ checking_cown from ∷ checking_cown to ∷ []
        else checking_cown to ∷ savings_cown from ∷ checking_cown from ∷ []) ≤ 3
    by true before = lit≤ tt
    by false true = lit≤ tt
    by false false = lit≤ tt

-- and a payment two, or none
payment_cowns_limit : (from to : ℕ) → length (payment_cowns from to) ≤ 3
payment_cowns_limit from to = by (from == to) (nat_lt from to)
  where
    by : (one before : Bool)
        → length (if one then [] else if before then checking_cown from ∷ checking_cown to ∷ []
        else checking_cown to ∷ checking_cown from ∷ []) ≤ 3
    by true before = lit≤ tt
    by false true = lit≤ tt
    by false false = lit≤ tt

pub declared_limit : (op : Op) → length (declared_cowns op) ≤ 3
declared_limit (Balance place) = lit≤ tt
declared_limit (DepositChecking place amount) = lit≤ tt
declared_limit (TransactSavings place amount) = lit≤ tt
declared_limit (Amalgamate places) = amalgamation_cowns_limit places.0 places.1
declared_limit (WriteCheck place amount) = lit≤ tt
declared_limit (SendPayment places amount) = payment_cowns_limit places.0 places.1
declared_limit NoCustomer = lit≤ tt
declared_limit SameCustomer = lit≤ tt

-- ---- keeping

-- an effect on as many values as there are cowns leaves allowed values, if it does so for allowed
-- values
on_one_in_range : (a : ℕ) (effect : ℤ → Reply × List ℤ)
    → ((v : ℤ) → IsCownValue a v → AreCownValues (a ∷ []) (effect v).1)
    → (inputs : List ℤ) → AreCownValues (a ∷ []) inputs → AreCownValues (a ∷ []) (on_one_value effect inputs).1
on_one_in_range a effect h [] allowed = absurd allowed
on_one_in_range a effect h (v ∷ []) allowed = h v allowed.0
on_one_in_range a effect h (v ∷ w ∷ more) allowed = absurd allowed.1

on_two_in_range : (a b : ℕ) (effect : ℤ → ℤ → Reply × List ℤ)
    → ((v w : ℤ) → IsCownValue a v → IsCownValue b w → AreCownValues (a ∷ b ∷ []) (effect v w).1)
    → (inputs : List ℤ) → AreCownValues (a ∷ b ∷ []) inputs → AreCownValues (a ∷ b ∷ []) (on_two_values effect inputs).1
on_two_in_range a b effect h [] allowed = absurd allowed
on_two_in_range a b effect h (v ∷ []) allowed = absurd allowed.1
on_two_in_range a b effect h (v ∷ w ∷ []) allowed = h v w allowed.0 allowed.1.0
on_two_in_range a b effect h (v ∷ w ∷ x ∷ more) allowed = absurd allowed.1.1

on_three_in_range : (a b c : ℕ) (effect : ℤ → ℤ → ℤ → Reply × List ℤ)
    → ((v w x : ℤ) → IsCownValue a v → IsCownValue b w → IsCownValue c x
    → AreCownValues (a ∷ b ∷ c ∷ []) (effect v w x).1)
    → (inputs : List ℤ) → AreCownValues (a ∷ b ∷ c ∷ []) inputs
    → AreCownValues (a ∷ b ∷ c ∷ []) (on_three_values effect inputs).1
on_three_in_range a b c effect h [] allowed = absurd allowed
on_three_in_range a b c effect h (v ∷ []) allowed = absurd allowed.1
on_three_in_range a b c effect h (v ∷ w ∷ []) allowed = absurd allowed.1.1
on_three_in_range a b c effect h (v ∷ w ∷ x ∷ []) allowed = h v w x allowed.0 allowed.1.0 allowed.1.1.0
on_three_in_range a b c effect h (v ∷ w ∷ x ∷ y ∷ more) allowed = absurd allowed.1.1.1

-- one of two effects
either_in_range : (cowns : List ℕ) (test : Bool) (first second : Reply × List ℤ) → AreCownValues cowns first.1
    → (test ≡ false → AreCownValues cowns second.1) → AreCownValues cowns (if test then first else second).1
either_in_range cowns true first second a b = a
either_in_range cowns false first second a b = b refl

-- a checking balance within the limit is in its cown's range
checking_in_range : (place : ℕ) (v : ℤ) → IsWithinLimit v → IsCownValue (checking_cown place) v
checking_in_range place v within =
    record { within = within; not_negative = λ even. absurd (checking_cown_odd place even) }

-- savings from 0 to the limit are in their cown's range
some_savings_in_range : (place : ℕ) (v : ℤ) → int_lt v (pos 0) ≡ false
    → int_lt LIMIT v ≡ false → IsCownValue (savings_cown place) v
some_savings_in_range place v ge le =
    record {
      within = record { at_least = not_negative_above v _ ge; at_most = at_least v LIMIT le };
      not_negative =
          λ even. at_least (pos 0) v ge;
    }

-- a checking balance that grows is in its cown's range if it isn't over the limit
received_in_range : (place : ℕ) (amount checking : ℤ) → IsCownValue (checking_cown place) checking
    → int_lt amount (pos 0) ≡ false → int_lt LIMIT (checking +ℤ amount) ≡ false
    → IsCownValue (checking_cown place) (checking +ℤ amount)
received_in_range place amount checking h ge le =
    checking_in_range place (checking +ℤ amount)
    (record {
      at_least = sum_above (neg_ℤ LIMIT) checking amount ge h.within.at_least;
      at_most = at_least (checking +ℤ amount) LIMIT le;
    })

deposit_in_range : (place : ℕ) (amount checking : ℤ) → IsCownValue (checking_cown place) checking
    → AreCownValues (checking_cown place ∷ []) (deposit_effect amount checking).1
deposit_in_range place amount checking h =
    either_in_range (checking_cown place ∷ []) (int_lt amount (pos 0)) _ _ (h, tt) (λ ge.
    either_in_range (checking_cown place ∷ []) (int_lt LIMIT (checking +ℤ amount)) _ _ (h, tt) (λ le.
    (received_in_range place amount checking h ge le, tt)))

savings_in_range : (place : ℕ) (amount savings : ℤ) → IsCownValue (savings_cown place) savings
    → AreCownValues (savings_cown place ∷ []) (savings_effect amount savings).1
savings_in_range place amount savings h =
    either_in_range (savings_cown place ∷ []) (int_lt (savings +ℤ amount) (pos 0)) _ _ (h, tt) (λ ge.
    either_in_range (savings_cown place ∷ []) (int_lt LIMIT (savings +ℤ amount)) _ _ (h, tt) (λ le.
    (some_savings_in_range place (savings +ℤ amount) ge le, tt)))

-- a check never raises a balance
check_lowers : (savings checking amount : ℤ) → IsWithinLimit checking → int_lt amount (pos 0) ≡ false
    → (checking -ℤ check_cost savings checking amount) ≤ℤ LIMIT
check_lowers savings checking amount within ge = by (int_lt (savings +ℤ checking) amount)
  where
    by : (overdrawn : Bool) → (checking -ℤ (if overdrawn then amount +ℤ pos 100 else amount)) ≤ℤ LIMIT
    by true = difference_below LIMIT checking (amount +ℤ pos 100) (more_not_negative amount 100 ge) within.at_most
    by false = difference_below LIMIT checking amount ge within.at_most

check_in_range : (place : ℕ) (amount savings checking : ℤ) → IsCownValue (savings_cown place) savings
    → IsCownValue (checking_cown place) checking
    → AreCownValues (savings_cown place ∷ checking_cown place ∷ []) (check_effect amount savings checking).1
check_in_range place amount savings checking s c =
    either_in_range (savings_cown place ∷ checking_cown place ∷ []) (int_lt amount (pos 0)) _ _ (s, (c, tt)) (λ ge.
    either_in_range (savings_cown place ∷ checking_cown place ∷ [])
    (int_lt (checking -ℤ check_cost savings checking amount) (neg_ℤ LIMIT)) _ _ (s, (c, tt)) (λ le. (
      s,
      (
        checking_in_range place (checking -ℤ check_cost savings checking amount)
            (record {
              at_least = at_least (neg_ℤ LIMIT) (checking -ℤ check_cost savings checking amount) le;
              at_most =
                  check_lowers savings checking amount c.within ge;
            }),
        tt,
      ),
    )))

-- a sum that isn't too much is within the limit
pub sum_within : (v : ℤ) → takes_too_much v ≡ false → IsWithinLimit v
sum_within v e =
    let both = or_parts (int_lt LIMIT v) (int_lt v (neg_ℤ LIMIT)) e in
    record { at_least = at_least (neg_ℤ LIMIT) v both.1; at_most = at_least v LIMIT both.0 }

-- 0 is in the range of every cown
pub zero_in_range : (cown : ℕ) → IsCownValue cown (pos 0)
zero_in_range cown =
    record { within = record { at_least = le_z_yes tt; at_most = le_z_yes tt }; not_negative = λ even. le_z_yes tt }

giver_first_in_range : (from to : ℕ) (savings checking received : ℤ) → IsCownValue (savings_cown from) savings
    → IsCownValue (checking_cown from) checking → IsCownValue (checking_cown to) received
    → AreCownValues (savings_cown from ∷ checking_cown from ∷ checking_cown to ∷ [])
    (giver_first_effect savings checking received).1
giver_first_in_range from to savings checking received s c r =
    let sum = (received +ℤ savings) +ℤ checking in
    either_in_range (savings_cown from ∷ checking_cown from ∷ checking_cown to ∷ []) (takes_too_much sum) _ _
    (s, (c, (r, tt))) (λ e. (
      zero_in_range (savings_cown from),
      (
        zero_in_range (checking_cown from),
        (checking_in_range to sum (sum_within sum e), tt),
      ),
    ))

taker_first_in_range : (from to : ℕ) (received savings checking : ℤ) → IsCownValue (checking_cown to) received
    → IsCownValue (savings_cown from) savings → IsCownValue (checking_cown from) checking
    → AreCownValues (checking_cown to ∷ savings_cown from ∷ checking_cown from ∷ [])
    (taker_first_effect received savings checking).1
taker_first_in_range from to received savings checking r s c =
    let sum = (received +ℤ savings) +ℤ checking in
    either_in_range (checking_cown to ∷ savings_cown from ∷ checking_cown from ∷ []) (takes_too_much sum) _ _
    (r, (s, (c, tt))) (λ e. (
      checking_in_range to sum (sum_within sum e),
      (zero_in_range (savings_cown from), (zero_in_range (checking_cown from), tt)),
    ))

amalgamation_effect_in_range : (from to : ℕ) (inputs : List ℤ) → AreCownValues (amalgamation_cowns from to) inputs
    → AreCownValues (amalgamation_cowns from to) (amalgamation_effect from to inputs).1
amalgamation_effect_in_range from to inputs = by (from == to) (nat_lt from to)
  where
    by : (one before : Bool)
        → AreCownValues (if one then [] else if before
        then savings_cown from ∷ checking_cown from ∷ checking_cown to ∷ []
        else checking_cown to ∷ savings_cown from ∷ checking_cown from ∷ []) inputs
        → AreCownValues (if one then [] else if before
        then savings_cown from ∷ checking_cown from ∷ checking_cown to ∷ []
        else checking_cown to ∷ savings_cown from ∷ checking_cown from ∷ [])
        (if one then (replies.SameCustomer, inputs) else if before then on_three_values giver_first_effect inputs
        else on_three_values taker_first_effect inputs).1
    by true before allowed = allowed
    by false true allowed =
        on_three_in_range (savings_cown from) (checking_cown from) (checking_cown to) giver_first_effect
        (giver_first_in_range from to) inputs allowed
    by false false allowed =
        on_three_in_range (checking_cown to) (savings_cown from) (checking_cown from) taker_first_effect
        (taker_first_in_range from to) inputs allowed

-- a fact about a payment that holds in each of its four cases
pub in_each_payment : (P : Reply × ℤ × ℤ → Type 0) (amount checking received : ℤ)
    → (int_lt amount (pos 0) ≡ true → P (replies.Negative, checking, received))
    → (int_lt amount (pos 0) ≡ false → int_lt checking amount ≡ true → P (replies.WouldOverdraw, checking, received))
    → (int_lt amount (pos 0) ≡ false → int_lt checking amount ≡ false → int_lt LIMIT (received +ℤ amount) ≡ true
    → P (replies.OverLimit, checking, received))
    → (int_lt amount (pos 0) ≡ false → int_lt checking amount ≡ false → int_lt LIMIT (received +ℤ amount) ≡ false
    → P (replies.Done, checking -ℤ amount, received +ℤ amount))
    → P (payment amount checking received)
in_each_payment P amount checking received =
    by (int_lt amount (pos 0)) (int_lt checking amount) (int_lt LIMIT (received +ℤ amount))
  where
    by : (negative short over : Bool) → (negative ≡ true → P (replies.Negative, checking, received))
        → (negative ≡ false → short ≡ true → P (replies.WouldOverdraw, checking, received))
        → (negative ≡ false → short ≡ false → over ≡ true → P (replies.OverLimit, checking, received))
        → (negative ≡ false → short ≡ false → over ≡ false → P (replies.Done, checking -ℤ amount, received +ℤ amount))
        → P (if negative then (replies.Negative, checking, received)
        else if short then (replies.WouldOverdraw, checking, received)
        else if over then (replies.OverLimit, checking, received)
        else (replies.Done, checking -ℤ amount, received +ℤ amount))
    by true short over below poor past done = below refl
    by false true over below poor past done = poor refl refl
    by false false true below poor past done = past refl refl refl
    by false false false below poor past done = done refl refl refl

-- a payment leaves allowed values to both customers
payment_in_range : (from to : ℕ) (amount checking received : ℤ) → IsCownValue (checking_cown from) checking
    → IsCownValue (checking_cown to) received
    → IsCownValue (checking_cown from) (payment amount checking received).1
    × IsCownValue (checking_cown to) (payment amount checking received).2
payment_in_range from to amount checking received c r =
    in_each_payment (λ after. IsCownValue (checking_cown from) after.1
    × IsCownValue (checking_cown to) after.2) amount checking
    received (λ below. (c, r)) (λ ge poor. (c, r)) (λ ge enough past. (c, r)) (λ ge enough le. (
      checking_in_range from (checking -ℤ amount)
          (record {
            at_least = remainder_above checking amount _ ge enough;
            at_most = difference_below LIMIT checking amount ge c.within.at_most;
          }),
      received_in_range to amount received r ge le,
    ))

payment_effect_in_range : (from to : ℕ) (amount : ℤ) (inputs : List ℤ) → AreCownValues (payment_cowns from to) inputs
    → AreCownValues (payment_cowns from to) (payment_effect from to amount inputs).1
payment_effect_in_range from to amount inputs = by (from == to) (nat_lt from to)
  where
    by : (one before : Bool)
        → AreCownValues (if one then [] else if before then checking_cown from ∷ checking_cown to ∷ []
        else checking_cown to ∷ checking_cown from ∷ []) inputs
        → AreCownValues (if one then [] else if before then checking_cown from ∷ checking_cown to ∷ []
        else checking_cown to ∷ checking_cown from ∷ [])
        (if one then (replies.SameCustomer, inputs) else if before then on_two_values (payer_first_effect amount) inputs
        else on_two_values (payee_first_effect amount) inputs).1
    by true before allowed = allowed
    by false true allowed =
        on_two_in_range (checking_cown from) (checking_cown to) (payer_first_effect amount)
        (λ v w c r. let kept = payment_in_range from to amount v w c r in (kept.0, (kept.1, tt))) inputs allowed
    by false false allowed =
        on_two_in_range (checking_cown to) (checking_cown from) (payee_first_effect amount)
        (λ v w r c. let kept = payment_in_range from to amount w v c r in (kept.1, (kept.0, tt))) inputs allowed

pub effect_in_range : (op : Op) (inputs : List ℤ) → AreCownValues (declared_cowns op) inputs
    → AreCownValues (declared_cowns op) (effect_of op inputs).1
effect_in_range (Balance place) inputs allowed =
    on_two_in_range (savings_cown place) (checking_cown place) _ (λ v w s c. (s, (c, tt))) inputs allowed
effect_in_range (DepositChecking place amount) inputs allowed =
    on_one_in_range (checking_cown place) (deposit_effect amount) (deposit_in_range place amount) inputs allowed
effect_in_range (TransactSavings place amount) inputs allowed =
    on_one_in_range (savings_cown place) (savings_effect amount) (savings_in_range place amount) inputs allowed
effect_in_range (Amalgamate places) inputs allowed = amalgamation_effect_in_range places.0 places.1 inputs allowed
effect_in_range (WriteCheck place amount) inputs allowed =
    on_two_in_range (savings_cown place) (checking_cown place) (check_effect amount)
    (check_in_range place amount) inputs allowed
effect_in_range (SendPayment places amount) inputs allowed =
    payment_effect_in_range places.0 places.1 amount inputs allowed
effect_in_range NoCustomer inputs allowed = allowed
effect_in_range SameCustomer inputs allowed = allowed
