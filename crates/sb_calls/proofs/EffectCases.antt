-- The effect of an op in each of its cases.
use Rattle.std.proofs.Common.{◌≡◌, ℕ, ◌<◌, ℤ, pos, neg_ℤ, ◌+ℤ◌, ◌-ℤ◌, ◌≤ℤ◌, Bool, true, false, cond, ◌==◌, List, [], ◌∷◌, get_or, refl, ◌∙◌, arith, to_z, of_z, w64, SFits}
use Rattle.std.specs.Prelude.{int_lt, nat_lt}
use Rattle.std.proofs.lemmas.Bool.Decides.{nat_tests}
use Rattle.std.proofs.lemmas.Int.{ints}
use Rattle.sb_amount.specs.Limit.{IsWithinLimit}
use Rattle.sb_amount.specs.declared.cents.TheConstants.{LIMIT}
use Rattle.sb_calls.proofs.Amalgamation.{past_limit_either, within_limit}
use Rattle.sb_calls.proofs.Procedures.{past_limit_downwards}
use Rattle.sb_calls.specs.Behaviour.{amalgamation_cowns, payment_cowns, check_effect, giver_first_effect, taker_first_effect, payer_first_effect, payee_first_effect, on_two_values, on_three_values, amalgamation_effect, payment_effect}
use Rattle.sb_calls.specs.Cowns.{savings_cown, checking_cown, AreCownValues}
use Rattle.sb_calls.specs.Procedures.{check_cost}
use Rattle.sb_calls.specs.declared.reply.Reply.{Reply}
use Rattle.sb_calls.specs.declared.reply.Reply.TheVariants.{Done, Penalised, OverLimit}

-- an amalgamation that is executed, and one that would pass the limit
pub giver_first_done : (s c r : ℤ) → IsWithinLimit ((r +ℤ s) +ℤ c) → giver_first_effect s c r ≡ (Done, pos 0 ∷ pos 0 ∷ ((r +ℤ s) +ℤ c) ∷ [])
giver_first_done s c r fits = rw (within_limit ((r +ℤ s) +ℤ c) fits) refl

pub giver_first_over_limit : (s c r : ℤ) → ¬ IsWithinLimit ((r +ℤ s) +ℤ c) → giver_first_effect s c r ≡ (OverLimit, s ∷ c ∷ r ∷ [])
giver_first_over_limit s c r past = rw (past_limit_either ((r +ℤ s) +ℤ c) past) refl

pub taker_first_done : (r s c : ℤ) → IsWithinLimit ((r +ℤ s) +ℤ c) → taker_first_effect r s c ≡ (Done, ((r +ℤ s) +ℤ c) ∷ pos 0 ∷ pos 0 ∷ [])
taker_first_done r s c fits = rw (within_limit ((r +ℤ s) +ℤ c) fits) refl

pub taker_first_over_limit : (r s c : ℤ) → ¬ IsWithinLimit ((r +ℤ s) +ℤ c) → taker_first_effect r s c ≡ (OverLimit, r ∷ s ∷ c ∷ [])
taker_first_over_limit r s c past = rw (past_limit_either ((r +ℤ s) +ℤ c) past) refl

-- a check costs its amount, or 100 cents more
pub cost_bounds : (s c amount : ℤ) → (amount ≤ℤ check_cost s c amount) × (check_cost s c amount ≤ℤ (amount +ℤ pos 100))
cost_bounds s c amount = by (int_lt (s +ℤ c) amount)
  where
    by : (overdrawn : Bool) → (amount ≤ℤ cond overdrawn (amount +ℤ pos 100) amount) × (cond overdrawn (amount +ℤ pos 100) amount ≤ℤ (amount +ℤ pos 100))
    by true = (omega (arith, ints), omega (arith, ints))
    by false = (omega (arith, ints), omega (arith, ints))

-- what a check leaves of checking fits 64 bits
pub check_fits : (s c amount v k : ℤ) → IsWithinLimit c → IsWithinLimit amount → v ≡ c → k ≡ check_cost s c amount
    → SFits w64 (to_z w64 (of_z w64 v) -ℤ to_z w64 (of_z w64 k))
check_fits s c amount v k has asks is costs =
    let bounds = cost_bounds s c amount in
    rw (is, costs) (omega (arith, ints, bounds.0, bounds.1, has.at_least, has.at_most, asks.at_least, asks.at_most))

-- what a check leaves of checking, in 64 bits
pub left_of_check : (s c amount v k : ℤ) → IsWithinLimit c → IsWithinLimit amount → v ≡ c → k ≡ check_cost s c amount
    → to_z w64 (of_z w64 (to_z w64 (of_z w64 v) -ℤ to_z w64 (of_z w64 k))) ≡ c -ℤ check_cost s c amount
left_of_check s c amount v k has asks is costs =
    let bounds = cost_bounds s c amount in
    rw (is, costs) (omega (arith, ints, bounds.0, bounds.1, has.at_least, has.at_most, asks.at_least, asks.at_most))

-- a check that is paid, and one that would pass the limit
pub check_paid : (amount s c : ℤ) → int_lt amount (pos 0) ≡ false → IsWithinLimit (c -ℤ check_cost s c amount)
    → check_effect amount s c ≡ (cond (int_lt (s +ℤ c) amount) Penalised Done, s ∷ (c -ℤ check_cost s c amount) ∷ [])
check_paid amount s c ge fits =
    let le : int_lt (c -ℤ check_cost s c amount) (neg_ℤ LIMIT) ≡ false = grind (arith, ints, fits.at_least) in
    rw (ge, le) refl

pub check_over_limit : (amount s c : ℤ) → IsWithinLimit c → int_lt amount (pos 0) ≡ false → ¬ IsWithinLimit (c -ℤ check_cost s c amount)
    → check_effect amount s c ≡ (OverLimit, s ∷ c ∷ [])
check_over_limit amount s c within ge past = let lt = past_limit_downwards s c amount within ge past in rw (ge, lt) refl

-- ---- on what the cowns hold

-- an effect on three values, applied to the values that were read
pub on_three : (a b c : ℕ) (effect : ℤ → ℤ → ℤ → Reply × List ℤ) (inputs : List ℤ) (x y z : ℤ) → AreCownValues (a ∷ b ∷ c ∷ []) inputs
    → x ≡ get_or inputs 0 x → y ≡ get_or inputs 1 y → z ≡ get_or inputs 2 z → on_three_values effect inputs ≡ effect x y z
on_three a b c effect [] x y z allowed first second third = absurd allowed
on_three a b c effect (v ∷ []) x y z allowed first second third = absurd allowed.1
on_three a b c effect (v ∷ w ∷ []) x y z allowed first second third = absurd allowed.1.1
on_three a b c effect (v ∷ w ∷ u ∷ []) x y z allowed first second third = rw (first, second, third) refl
on_three a b c effect (v ∷ w ∷ u ∷ t ∷ more) x y z allowed first second third = absurd allowed.1.1.1

-- the same for two values
pub on_two : (a b : ℕ) (effect : ℤ → ℤ → Reply × List ℤ) (inputs : List ℤ) (x y : ℤ) → AreCownValues (a ∷ b ∷ []) inputs
    → x ≡ get_or inputs 0 x → y ≡ get_or inputs 1 y → on_two_values effect inputs ≡ effect x y
on_two a b effect [] x y allowed first second = absurd allowed
on_two a b effect (v ∷ []) x y allowed first second = absurd allowed.1
on_two a b effect (v ∷ w ∷ []) x y allowed first second = rw (first, second) refl
on_two a b effect (v ∷ w ∷ u ∷ more) x y allowed first second = absurd allowed.1.1

-- an amalgamation if the giver comes first, and if the taker does
pub cowns_giver_first : (from to : ℕ) → from < to → amalgamation_cowns from to ≡ savings_cown from ∷ checking_cown from ∷ checking_cown to ∷ []
cowns_giver_first from to lt =
    let different : (from == to) ≡ false = grind (arith, nat_tests) in
    let before : nat_lt from to ≡ true = grind (arith, nat_tests) in
    rw (different, before) refl

pub cowns_taker_first : (from to : ℕ) → to < from → amalgamation_cowns from to ≡ checking_cown to ∷ savings_cown from ∷ checking_cown from ∷ []
cowns_taker_first from to lt =
    let different : (from == to) ≡ false = grind (arith, nat_tests) in
    let after : nat_lt from to ≡ false = grind (arith, nat_tests) in
    rw (different, after) refl

pub effect_giver_first : (from to : ℕ) (inputs : List ℤ) → from < to → amalgamation_effect from to inputs ≡ on_three_values giver_first_effect inputs
effect_giver_first from to inputs lt =
    let different : (from == to) ≡ false = grind (arith, nat_tests) in
    let before : nat_lt from to ≡ true = grind (arith, nat_tests) in
    rw (different, before) refl

pub effect_taker_first : (from to : ℕ) (inputs : List ℤ) → to < from → amalgamation_effect from to inputs ≡ on_three_values taker_first_effect inputs
effect_taker_first from to inputs lt =
    let different : (from == to) ≡ false = grind (arith, nat_tests) in
    let after : nat_lt from to ≡ false = grind (arith, nat_tests) in
    rw (different, after) refl

-- so it applies to the values that its cowns were read as
pub amalgamates_giver_first : (from to : ℕ) (inputs : List ℤ) (x y z : ℤ) → from < to → AreCownValues (amalgamation_cowns from to) inputs
    → x ≡ get_or inputs 0 x → y ≡ get_or inputs 1 y → z ≡ get_or inputs 2 z → amalgamation_effect from to inputs ≡ giver_first_effect x y z
amalgamates_giver_first from to inputs x y z lt allowed first second third =
    let in_order = rw (cowns_giver_first from to lt) at allowed in
    effect_giver_first from to inputs lt
    ∙ on_three (savings_cown from) (checking_cown from) (checking_cown to) giver_first_effect inputs x y z in_order first second third

pub amalgamates_taker_first : (from to : ℕ) (inputs : List ℤ) (x y z : ℤ) → to < from → AreCownValues (amalgamation_cowns from to) inputs
    → x ≡ get_or inputs 0 x → y ≡ get_or inputs 1 y → z ≡ get_or inputs 2 z → amalgamation_effect from to inputs ≡ taker_first_effect x y z
amalgamates_taker_first from to inputs x y z lt allowed first second third =
    let in_order = rw (cowns_taker_first from to lt) at allowed in
    effect_taker_first from to inputs lt
    ∙ on_three (checking_cown to) (savings_cown from) (checking_cown from) taker_first_effect inputs x y z in_order first second third

-- ---- payments

-- if the payer comes first, and if the payee does
pub cowns_payer_first : (from to : ℕ) → from < to → payment_cowns from to ≡ checking_cown from ∷ checking_cown to ∷ []
cowns_payer_first from to lt =
    let different : (from == to) ≡ false = grind (arith, nat_tests) in
    let before : nat_lt from to ≡ true = grind (arith, nat_tests) in
    rw (different, before) refl

pub cowns_payee_first : (from to : ℕ) → to < from → payment_cowns from to ≡ checking_cown to ∷ checking_cown from ∷ []
cowns_payee_first from to lt =
    let different : (from == to) ≡ false = grind (arith, nat_tests) in
    let after : nat_lt from to ≡ false = grind (arith, nat_tests) in
    rw (different, after) refl

pub effect_payer_first : (from to : ℕ) (amount : ℤ) (inputs : List ℤ) → from < to
    → payment_effect from to amount inputs ≡ on_two_values (payer_first_effect amount) inputs
effect_payer_first from to amount inputs lt =
    let different : (from == to) ≡ false = grind (arith, nat_tests) in
    let before : nat_lt from to ≡ true = grind (arith, nat_tests) in
    rw (different, before) refl

pub effect_payee_first : (from to : ℕ) (amount : ℤ) (inputs : List ℤ) → to < from
    → payment_effect from to amount inputs ≡ on_two_values (payee_first_effect amount) inputs
effect_payee_first from to amount inputs lt =
    let different : (from == to) ≡ false = grind (arith, nat_tests) in
    let after : nat_lt from to ≡ false = grind (arith, nat_tests) in
    rw (different, after) refl

-- so it applies to the values that its cowns were read as
pub pays_payer_first : (from to : ℕ) (amount : ℤ) (inputs : List ℤ) (x y : ℤ) → from < to → AreCownValues (payment_cowns from to) inputs
    → x ≡ get_or inputs 0 x → y ≡ get_or inputs 1 y → payment_effect from to amount inputs ≡ payer_first_effect amount x y
pays_payer_first from to amount inputs x y lt allowed first second =
    let in_order = rw (cowns_payer_first from to lt) at allowed in
    effect_payer_first from to amount inputs lt
    ∙ on_two (checking_cown from) (checking_cown to) (payer_first_effect amount) inputs x y in_order first second

pub pays_payee_first : (from to : ℕ) (amount : ℤ) (inputs : List ℤ) (x y : ℤ) → to < from → AreCownValues (payment_cowns from to) inputs
    → x ≡ get_or inputs 0 x → y ≡ get_or inputs 1 y → payment_effect from to amount inputs ≡ payee_first_effect amount x y
pays_payee_first from to amount inputs x y lt allowed first second =
    let in_order = rw (cowns_payee_first from to lt) at allowed in
    effect_payee_first from to amount inputs lt
    ∙ on_two (checking_cown to) (checking_cown from) (payee_first_effect amount) inputs x y in_order first second
