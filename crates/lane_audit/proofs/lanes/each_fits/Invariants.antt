use Rattle.std.proofs.Common.{ℕ, ◌<◌, pos, get_or, FitsSigned, w64}
use Rattle.lane_audit.proofs.lanes.each_fits.Given as goal

abbrev pub invariant-loop-value : goal.invariant-loop-value
invariant-loop-value l = (k : ℕ) → k < l.value-index → FitsSigned w64 (get_or l.values k (pos 0))
