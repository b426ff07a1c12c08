use Rattle.std.proofs.Common.{◌≡◌, ℤ, ◌+ℤ◌, subst, sym, arith, to_z, of_z, w64}
use Rattle.std.proofs.lemmas.Int.{ints}
use Rattle.std.specs.Option.{SomeIff}
use Rattle.sb_amount.specs.Limit.{IsWithinLimit}
use Rattle.sb_amount.proofs.cents.Cents.plus.Goals as goal

-- the sum of two amounts, in 64 bits
sum_of_two : (v w : ℤ) → IsWithinLimit v → IsWithinLimit w → to_z w64 (of_z w64 (to_z w64 (of_z w64 v) +ℤ to_z w64 (of_z w64 w))) ≡ v +ℤ w
sum_of_two v w first second = omega (arith, ints, first.at_least, first.at_most, second.at_least, second.at_most)

pub returns : goal.returns
returns c =
    let sum = sum_of_two c.self.inside.cents c.other.inside.cents c.self.invariant c.other.invariant in
    rw (sym c.self.view_is, sym c.other.view_is) (subst (λ v. SomeIff c.new.result (IsWithinLimit v) v) sum c.new.ensures)
