use Rattle.cown_bench.proofs.RuleSteps.{offers_as}
use Rattle.cown_bench.proofs.bench.Bench.offer.Goals as goal

pub push_as-requires-clause-rule : goal.push_as-requires-clause-rule
push_as-requires-clause-rule g c = offers_as _ _ _ _ _ _ c.self.invariant.queue c.pass.invariant.0.knows
