use Rattle.cown_bench.proofs.RuleSteps.{picks_as}
use Rattle.cown_bench.proofs.PassViewLaws.{picked_at}
use Rattle.cown_bench.proofs.bench.Bench.pick.Goals as goal

pub pop_as-requires-clause-rule : goal.pop_as-requires-clause-rule
pop_as-requires-clause-rule g c = (picks_as _ _ _ c.pass.invariant.knows, λ items views rule here. tt)

pub returns-clause-picked : goal.returns-clause-picked
returns-clause-picked g c =
    picked_at c.pass.inside.pass c.pop_as.new.pass c.args.pass.now c.pop_as.result _ c.pass.view_is c.pop_as.ensures.queue.0 c.pop_as.ensures.rule
