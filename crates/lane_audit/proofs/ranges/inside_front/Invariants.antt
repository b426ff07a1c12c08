use Rattle.std.proofs.Common.{◌≡◌, ℕ, ◌-◌, ◌<◌, ◌≤◌, pos, false, length, get_or}
use Rattle.lane_audit.specs.Columns.{is_outside}
use Rattle.lane_audit.proofs.ranges.inside_front.Given as goal

abbrev pub invariant-loop-at : goal.invariant-loop-at
invariant-loop-at l = (l.at ≤ length l.values) × ((k : ℕ) → k < l.at → is_outside l.low l.high (get_or l.values k (pos 0)) ≡ false)

abbrev pub decreases-loop-at : goal.decreases-loop-at
decreases-loop-at l = length l.values - l.at
