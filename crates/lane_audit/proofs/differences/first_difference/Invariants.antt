use Rattle.lane_audit.proofs.Positions.{SameBelow}
use Rattle.lane_audit.proofs.differences.first_difference.Given as goal

abbrev pub invariant-loop-place : goal.invariant-loop-place
invariant-loop-place l = SameBelow l.left l.right l.place
