-- The pass stays that of the bench.
use Rattle.std.proofs.Common.{◌≡◌}
use Rattle.running_tests.proofs.two_threads.pick_all.Given as goal

abbrev pub invariant-loop : goal.invariant-loop
invariant-loop g l = l.worker.bench ≡ l.bench
