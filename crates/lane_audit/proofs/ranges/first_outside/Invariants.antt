use Rattle.std.proofs.Common.{◌≡◌, ℕ, ◌<◌, pos, false, get_or}
use Rattle.lane_audit.specs.Columns.{is_outside}
use Rattle.lane_audit.proofs.ranges.first_outside.Given as goal

abbrev pub invariant-loop-place : goal.invariant-loop-place
invariant-loop-place l = (k : ℕ) → k < l.place → is_outside l.low l.high (get_or l.values k (pos 0)) ≡ false
