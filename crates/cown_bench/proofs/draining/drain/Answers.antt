use Rattle.cown_bench.proofs.DrainLaws.{takes_out_as}
use Rattle.cown_bench.proofs.draining.drain.Goals as goal

pub pop_as-requires-clause-rule : goal.pop_as-requires-clause-rule
pop_as-requires-clause-rule g c = takes_out_as _ _ _ _ _ c.loop-work.invariant.knows
