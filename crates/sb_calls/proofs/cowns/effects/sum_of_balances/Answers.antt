use Rattle.std.proofs.Common.{◌≡◌, ℤ, ◌+ℤ◌, subst, arith, to_z, of_z, w64}
use Rattle.std.proofs.lemmas.Int.{ints}
use Rattle.std.specs.Option.{SomeIff}
use Rattle.sb_amount.specs.Limit.{IsWithinLimit}
use Rattle.sb_calls.proofs.cowns.effects.sum_of_balances.Goals as goal

-- the sum of three amounts, in 64 bits
sum_of_three : (r s c u v w : ℤ) → IsWithinLimit r → IsWithinLimit s → IsWithinLimit c → u ≡ r → v ≡ s → w ≡ c
    → to_z w64 (of_z w64 (to_z w64 (of_z w64 (to_z w64 (of_z w64 u) +ℤ to_z w64 (of_z w64 v))) +ℤ to_z w64 (of_z w64 w))) ≡ (r +ℤ s) +ℤ c
sum_of_three r s c u v w first second third is_r is_s is_c =
    rw (is_r, is_s, is_c)
    (omega (arith, ints, first.at_least, first.at_most, second.at_least, second.at_most, third.at_least, third.at_most))

pub returns : goal.returns
returns c =
    let sum = sum_of_three c.args.received c.args.savings c.args.checking c.value.result c.value-2.result c.value-3.result
    c.value.ensures.within c.value-2.ensures.within c.value-3.ensures.within c.value.ensures.value c.value-2.ensures.value c.value-3.ensures.value in
    subst (λ v. SomeIff c.new.result (IsWithinLimit v) v) sum c.new.ensures
