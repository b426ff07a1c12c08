use Rattle.std.proofs.Common.{ap, arith, of_z, w64}
use Rattle.lane_audit.proofs.Positions.{first_difference_at, first_difference_none}
use Rattle.lane_audit.proofs.differences.first_difference.Goals as goal

pub returns-then-left-place : goal.returns-then-left-place
returns-then-left-place c =
    first_difference_at c.args.left.now c.args.right.now c.requires c.loop-place.place c.loop-place-test.true c.loop-place.invariant
    (λ same. c.if-left-place.true (ap (of_z w64) same))

pub returns : goal.returns
returns c = first_difference_none c.args.left.now c.args.right.now c.requires (λ k inside. c.loop-place.invariant k (omega arith))
