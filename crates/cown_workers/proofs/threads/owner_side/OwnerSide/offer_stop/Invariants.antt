-- Nothing is laid out so far.
use Rattle.std.proofs.Common.{◌≡◌}
use Rattle.cown_workers.proofs.threads.owner_side.OwnerSide.offer_stop.Given as goal

abbrev pub invariant-loop : goal.invariant-loop
invariant-loop g l = (l.self.pass ≡ l.fn.self.pass) × (l.self.bench.now ≡ l.fn.self.bench.now)
