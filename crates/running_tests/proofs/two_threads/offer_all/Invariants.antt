-- The pass stays that of the bench.
use Rattle.std.proofs.Common.{◌≡◌}
use Rattle.running_tests.proofs.two_threads.offer_all.Given as goal

abbrev pub invariant-loop-job : goal.invariant-loop-job
invariant-loop-job g l = (l.owner.bench ≡ l.bench) × (l.owner.workers ≡ l.fn.owner.workers)
