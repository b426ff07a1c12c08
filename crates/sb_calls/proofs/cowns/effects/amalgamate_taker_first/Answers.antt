use Rattle.sb_calls.proofs.EffectCases.{taker_first_done, taker_first_over_limit}
use Rattle.sb_calls.proofs.cowns.effects.amalgamate_taker_first.Goals as goal

pub returns-in-Some : goal.returns-in-Some
returns-in-Some c = rw (taker_first_done c.args.received c.args.savings c.args.checking c.in-Some.ensures.0, ← c.in-Some.ensures.1) cc

pub returns-in-None : goal.returns-in-None
returns-in-None c = rw (taker_first_over_limit c.args.received c.args.savings c.args.checking c.in-None.ensures) cc
