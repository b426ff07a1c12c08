-- The sum fits 64 bits: it is below 0, within the limit or past it.
use Rattle.std.proofs.Common.{◌≡◌, ℤ, pos, ◌+ℤ◌, true, false, refl, subst, sym, arith, to_z, of_z, w64}
use Rattle.std.specs.Prelude.{int_lt}
use Rattle.std.proofs.lemmas.Int.{ints}
use Rattle.sb_amount.specs.Limit.{IsWithinLimit}
use Rattle.sb_amount.specs.declared.cents.TheConstants.{LIMIT}
use Rattle.sb_calls.proofs.Procedures.{past_limit_upwards}
use Rattle.sb_calls.proofs.cowns.effects.change_savings.Goals as goal

-- a sum of two amounts, in 64 bits
sum_of_two : (s a u v : ℤ) → IsWithinLimit s → IsWithinLimit a → u ≡ s → v ≡ a
    → to_z w64 (of_z w64 (to_z w64 (of_z w64 u) +ℤ to_z w64 (of_z w64 v))) ≡ s +ℤ a
sum_of_two s a u v first second is_s is_a =
    rw (is_s, is_a) (omega (arith, ints, first.at_least, first.at_most, second.at_least, second.at_most))

pub overflow_add-sum : goal.overflow_add-sum
overflow_add-sum c =
    let first = c.value.ensures.within in
    let second = c.value-2.ensures.within in
    rw (c.value.ensures.value, c.value-2.ensures.value) (omega (arith, ints, first.at_least, first.at_most, second.at_least, second.at_most))

pub returns-then-sum-lt0 : goal.returns-then-sum-lt0
returns-then-sum-lt0 c =
    let sum = sum_of_two c.args.savings c.args.amount _ _ c.value.ensures.within c.value-2.ensures.within c.value.ensures.value c.value-2.ensures.value in
    let below : int_lt (c.args.savings +ℤ c.args.amount) (pos 0) ≡ true = rw sum at c.if-sum-lt0.true in
    rw (below, c.reply_with_one.ensures.reply, c.reply_with_one.ensures.outputs) refl

pub returns-in-Some : goal.returns-in-Some
returns-in-Some c =
    let sum = sum_of_two c.args.savings c.args.amount _ _ c.value.ensures.within c.value-2.ensures.within c.value.ensures.value c.value-2.ensures.value in
    let above : int_lt (c.args.savings +ℤ c.args.amount) (pos 0) ≡ false = rw sum at c.if-sum-lt0.false in
    let within : IsWithinLimit (c.args.savings +ℤ c.args.amount) = subst IsWithinLimit sum c.in-Some.ensures.0 in
    let fits : int_lt LIMIT (c.args.savings +ℤ c.args.amount) ≡ false = grind (arith, ints, within.at_most) in
    rw (above, fits, c.reply_with_one-in-Some.ensures.reply, c.reply_with_one-in-Some.ensures.outputs, c.in-Some.ensures.1, sum) refl

pub returns-in-None : goal.returns-in-None
returns-in-None c =
    let sum = sum_of_two c.args.savings c.args.amount _ _ c.value.ensures.within c.value-2.ensures.within c.value.ensures.value c.value-2.ensures.value in
    let above : int_lt (c.args.savings +ℤ c.args.amount) (pos 0) ≡ false = rw sum at c.if-sum-lt0.false in
    let past = past_limit_upwards (c.args.savings +ℤ c.args.amount) above (λ fits. c.in-None.ensures (subst IsWithinLimit (sym sum) fits)) in
    rw (above, past, c.reply_with_one-in-None.ensures.reply, c.reply_with_one-in-None.ensures.outputs) refl
