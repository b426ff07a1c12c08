use Rattle.sb_calls.proofs.EffectCases.{giver_first_done, giver_first_over_limit}
use Rattle.sb_calls.proofs.cowns.effects.amalgamate_giver_first.Goals as goal

pub returns-in-Some : goal.returns-in-Some
returns-in-Some c = rw (giver_first_done c.args.savings c.args.checking c.args.received c.in-Some.ensures.0, ← c.in-Some.ensures.1) cc

pub returns-in-None : goal.returns-in-None
returns-in-None c = rw (giver_first_over_limit c.args.savings c.args.checking c.args.received c.in-None.ensures) cc
