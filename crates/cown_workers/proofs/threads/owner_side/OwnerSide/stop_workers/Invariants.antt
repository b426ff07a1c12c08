-- This many are laid out so far.
use Rattle.std.proofs.Common.{◌≡◌, ◌++◌, replicate}
use Rattle.cown_bench.specs.declared.work.Work.TheVariants.{Stop}
use Rattle.cown_workers.proofs.threads.owner_side.OwnerSide.stop_workers.Given as goal

abbrev pub invariant-loop : goal.invariant-loop
invariant-loop g l =
    (l.self.pass ≡ record l.fn.self.pass { offered = l.fn.self.pass.offered ++ replicate l.counter Stop })
    × (l.self.bench.now ≡ l.fn.self.bench.now)
