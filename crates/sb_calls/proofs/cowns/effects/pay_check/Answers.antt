use Rattle.std.proofs.Common.{◌≡◌, pos, true, false, refl, sym, ap, subst, arith}
use Rattle.std.specs.Prelude.{int_lt}
use Rattle.std.proofs.lemmas.Int.{ints}
use Rattle.sb_amount.specs.Limit.{IsWithinLimit}
use Rattle.sb_calls.proofs.EffectCases.{check_fits, left_of_check, check_paid, check_over_limit}
use Rattle.sb_calls.proofs.cowns.effects.pay_check.Goals as goal

pub overflow_sub-value : goal.overflow_sub-value
overflow_sub-value c =
    check_fits c.args.savings c.args.checking c.args.amount _ _ c.value-2.ensures.within c.value.ensures.within c.value-2.ensures.value
    (ap (λ cost. cost.0) c.cost_of_check-cost.ensures)

pub returns-then-value-lt0 : goal.returns-then-value-lt0
returns-then-value-lt0 c =
    let negative : int_lt c.args.amount (pos 0) ≡ true = grind (arith, ints, c.value.ensures.value, c.if-value-lt0.true) in
    rw (negative, c.reply_with_two.ensures.reply, c.reply_with_two.ensures.outputs) refl

pub returns-in-Some : goal.returns-in-Some
returns-in-Some c =
    let not_negative : int_lt c.args.amount (pos 0) ≡ false = grind (arith, ints, c.value.ensures.value, c.if-value-lt0.false) in
    let left = left_of_check c.args.savings c.args.checking c.args.amount _ _ c.value-2.ensures.within c.value.ensures.within
    c.value-2.ensures.value (ap (λ cost. cost.0) c.cost_of_check-cost.ensures) in
    let paid = check_paid c.args.amount c.args.savings c.args.checking not_negative (subst IsWithinLimit left c.in-Some.ensures.0) in
    let reply = ap (λ cost. cost.1) c.cost_of_check-cost.ensures in
    rw (paid, c.reply_with_two-in-Some.ensures.reply, c.reply_with_two-in-Some.ensures.outputs, reply, c.in-Some.ensures.1, left) refl

pub returns-in-None : goal.returns-in-None
returns-in-None c =
    let not_negative : int_lt c.args.amount (pos 0) ≡ false = grind (arith, ints, c.value.ensures.value, c.if-value-lt0.false) in
    let left = left_of_check c.args.savings c.args.checking c.args.amount _ _ c.value-2.ensures.within c.value.ensures.within
    c.value-2.ensures.value (ap (λ cost. cost.0) c.cost_of_check-cost.ensures) in
    let over = check_over_limit c.args.amount c.args.savings c.args.checking c.value-2.ensures.within not_negative
    (λ fits. c.in-None.ensures (subst IsWithinLimit (sym left) fits)) in
    rw (over, c.reply_with_two-in-None.ensures.reply, c.reply_with_two-in-None.ensures.outputs) refl
