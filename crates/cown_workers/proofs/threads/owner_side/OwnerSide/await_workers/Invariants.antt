-- Nothing more is laid out.
use Rattle.std.proofs.Common.{◌≡◌}
use Rattle.cown_workers.proofs.threads.owner_side.OwnerSide.await_workers.Given as goal

abbrev pub invariant-loop : goal.invariant-loop
invariant-loop g l = l.self.pass ≡ l.fn.self.pass
