use Rattle.cown_bench.proofs.RuleSteps.{takes_in_as}
use Rattle.cown_bench.proofs.worker_passes.absorb_passes.Goals as goal

pub absorb-requires-clause-rule : goal.absorb-requires-clause-rule
absorb-requires-clause-rule c = takes_in_as _ _ _ _ _ _ _ _ c.loop-worker.invariant.knows c.worker.invariant.knows
