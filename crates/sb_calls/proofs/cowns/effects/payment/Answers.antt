use Rattle.std.proofs.Common.{◌≡◌, pos, ◌+ℤ◌, true, false, refl, arith}
use Rattle.std.specs.Prelude.{int_lt}
use Rattle.std.proofs.lemmas.Int.{ints}
use Rattle.sb_amount.specs.declared.cents.TheConstants.{LIMIT}
use Rattle.sb_calls.proofs.cowns.effects.payment.Goals as goal

pub returns-then-value-lt0 : goal.returns-then-value-lt0
returns-then-value-lt0 c =
    let negative : int_lt c.args.amount (pos 0) ≡ true = grind (arith, ints, c.value.ensures.value, c.if-value-lt0.true) in
    rw negative refl

pub returns-then-value : goal.returns-then-value
returns-then-value c =
    let not_negative : int_lt c.args.amount (pos 0) ≡ false = grind (arith, ints, c.value.ensures.value, c.if-value-lt0.false) in
    let short : int_lt c.args.checking c.args.amount ≡ true = grind (arith, ints, c.value-2.ensures.value, c.value-3.ensures.value, c.if-value.true) in
    rw (not_negative, short) refl

pub remaining_balance-requires-clause-not_negative : goal.remaining_balance-requires-clause-not_negative
remaining_balance-requires-clause-not_negative c = grind (arith, ints, c.value.ensures.value, c.if-value-lt0.false)

pub remaining_balance-requires-clause-enough : goal.remaining_balance-requires-clause-enough
remaining_balance-requires-clause-enough c = grind (arith, ints, c.value-2.ensures.value, c.value-3.ensures.value, c.if-value.false)

pub returns-in-Some : goal.returns-in-Some
returns-in-Some c =
    let not_negative : int_lt c.args.amount (pos 0) ≡ false = grind (arith, ints, c.value.ensures.value, c.if-value-lt0.false) in
    let enough : int_lt c.args.checking c.args.amount ≡ false = grind (arith, ints, c.value-2.ensures.value, c.value-3.ensures.value, c.if-value.false) in
    let fits : int_lt LIMIT (c.args.received +ℤ c.args.amount) ≡ false = grind (arith, ints, c.in-Some.ensures.0.at_most) in
    rw (not_negative, enough, fits, c.remaining_balance.ensures, c.in-Some.ensures.1) refl
