use Rattle.std.proofs.Common.{◌≡◌, ◌+◌, ◌*◌, ◌/◌, length, take}
use Rattle.lane_audit.specs.Columns.{count_below}
use Rattle.lane_audit.proofs.counting.count_below.Given as goal

abbrev pub invariant-loop-value : goal.invariant-loop-value
invariant-loop-value l = l.count ≡ count_below (take (length l.fn.values / 8 * 8 + l.value-index) l.fn.values) l.low
