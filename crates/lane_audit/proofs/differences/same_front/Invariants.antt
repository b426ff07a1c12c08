use Rattle.std.proofs.Common.{◌-◌, ◌≤◌, length}
use Rattle.lane_audit.proofs.Positions.{SameBelow}
use Rattle.lane_audit.proofs.differences.same_front.Given as goal

abbrev pub invariant-loop-at : goal.invariant-loop-at
invariant-loop-at l = (l.at ≤ length l.left) × SameBelow l.left l.right l.at

abbrev pub decreases-loop-at : goal.decreases-loop-at
decreases-loop-at l = length l.left - l.at
