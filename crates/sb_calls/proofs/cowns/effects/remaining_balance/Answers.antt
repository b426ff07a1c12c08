-- What is left fits 64 bits and is within the limit.
use Rattle.std.proofs.Common.{◌≡◌, ◌-ℤ◌, ◌∙◌, arith, to_z, of_z, w64}
use Rattle.std.proofs.lemmas.Int.{ints}
use Rattle.sb_calls.proofs.cowns.effects.remaining_balance.Goals as goal

pub overflow_sub-value : goal.overflow_sub-value
overflow_sub-value c =
    rw (c.value.ensures.value, c.value-2.ensures.value)
    (omega (arith, ints, c.requires.not_negative, c.requires.enough, c.value.ensures.within.at_most))

pub returns : goal.returns
returns c =
    let rest : to_z w64 (of_z w64 (to_z w64 (of_z w64 c.value.result) -ℤ to_z w64 (of_z w64 c.value-2.result))) ≡ c.args.balance -ℤ c.args.amount =
    rw (c.value.ensures.value, c.value-2.ensures.value)
    (omega (arith, ints, c.requires.not_negative, c.requires.enough, c.value.ensures.within.at_most)) in
    (rw c.unwrap.ensures at c.new.ensures).1 ∙ rest
