use Rattle.std.proofs.Common.{◌≡◌, ◌+◌, ◌*◌, ◌/◌, length, take}
use Rattle.lane_audit.specs.Columns.{total}
use Rattle.lane_audit.proofs.summing.sum.Given as goal

abbrev pub invariant-loop-value : goal.invariant-loop-value
invariant-loop-value l = l.sum ≡ total (take (length l.fn.values / 8 * 8 + l.value-index) l.fn.values)
