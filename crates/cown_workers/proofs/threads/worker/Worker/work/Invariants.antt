-- The worker stays at its bench.
use Rattle.std.proofs.Common.{◌≡◌}
use Rattle.cown_workers.proofs.threads.worker.Worker.work.Given as goal

abbrev pub invariant-loop : goal.invariant-loop
invariant-loop g l = l.self.bench.now ≡ l.fn.self.bench.now
