-- What is unsent is the result.
use Rattle.std.proofs.Common.{◌≡◌}
use Rattle.cown_workers.proofs.threads.worker.hand_over.Given as goal

abbrev pub invariant-loop : goal.invariant-loop
invariant-loop g l = l.unsent ≡ l.fn.done
