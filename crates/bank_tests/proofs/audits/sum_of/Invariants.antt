use Rattle.std.proofs.Common.{ℕ, ◌<◌, pos, get_or}
use Rattle.sb_amount.specs.Limit.{IsWithinLimit}
use Rattle.bank_tests.proofs.audits.sum_of.Given as goal

abbrev pub invariant-loop-value : goal.invariant-loop-value
invariant-loop-value g l = (k : ℕ) → k < l.value-index → IsWithinLimit (get_or l.values k (pos 0))
