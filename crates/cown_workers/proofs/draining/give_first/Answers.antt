-- An op that was just handed out and comes back is finished at once.
use Rattle.std.proofs.Common.{sym, ◌∙◌, arith}
use Rattle.sb_calls.specs.Behaviour.{declared_cowns, effect_of}
use Rattle.cown_workers.proofs.InPlaceRuns.{CarriesOut, carried, finished, no_refusal, ran_in_place}
use Rattle.cown_workers.proofs.BoardSteps.{Takes-drains, Takes-counts}
use Rattle.cown_workers.proofs.CrewExchanges.{Exchanged-one}
use Rattle.cown_workers.specs.Draining.{Kept, CameBack}
use Rattle.cown_workers.proofs.draining.give_first.Goals as goal
use Rattle.cown_workers.proofs.draining.give_first.Given.{Over}

carried_here : (g : Over) (c : goal.Else-prove g) → CarriesOut (g.R.Runs.board c.args.runs.now) (g.R.Runs.board c.finish.new.self)
carried_here g c = carried declared_cowns effect_of _ c.finish.result c.in-Some.ensures.made c.in-Err.ensures.same c.run.ensures.job c.finish.ensures.made

pub prove-unreachable-requires : goal.prove-unreachable-requires
prove-unreachable-requires g c =
    no_refusal c.finish.result
    (finished declared_cowns effect_of c.finish.result c.in-Some.ensures.made c.in-Err.ensures.same c.run.ensures.job c.finish.ensures.made).0
    (sym c.is_ok-finished.ensures.value ∙ c.if-prove.true)

pub returns-in-Err-clause-given : goal.returns-in-Err-clause-given
returns-in-Err-clause-given g c = λ _. (carried_here g c).waiting

pub returns-in-Err-clause-log : goal.returns-in-Err-clause-log
returns-in-Err-clause-log g c = (carried_here g c).drains

pub returns-in-Err-clause-unfinished : goal.returns-in-Err-clause-unfinished
returns-in-Err-clause-unfinished g c = let h = (carried_here g c).unfinished in omega (arith, h)

pub returns-in-Err-clause-none_out : goal.returns-in-Err-clause-none_out
returns-in-Err-clause-none_out g c = λ _. (carried_here g c).none_out

pub returns-in_default-give-clause-given : goal.returns-in_default-give-clause-given
returns-in_default-give-clause-given g c = λ _. let h = Takes-counts declared_cowns effect_of c.in-Some.ensures.made in omega (arith, h)

pub returns-in_default-give-clause-log : goal.returns-in_default-give-clause-log
returns-in_default-give-clause-log g c = Takes-drains declared_cowns effect_of c.in-Some.ensures.made

pub returns-in_default-give-clause-unfinished : goal.returns-in_default-give-clause-unfinished
returns-in_default-give-clause-unfinished g c = let h = Takes-counts declared_cowns effect_of c.in-Some.ensures.made in omega (arith, h)

pub returns-in-Err-clause-exchanged : goal.returns-in-Err-clause-exchanged
returns-in-Err-clause-exchanged g c =
    Exchanged-one g.C.Crew.acts (CameBack c.in-Some.job) c.in-Err.ensures.acts
    (ran_in_place _ c.finish.result c.in-Some.ensures.made c.in-Err.ensures.same c.run.ensures.job c.finish.ensures.made)

pub returns-in_default-give-clause-exchanged : goal.returns-in_default-give-clause-exchanged
returns-in_default-give-clause-exchanged g c = Exchanged-one g.C.Crew.acts (Kept c.in-Some.job) c.in_default-give.ensures.acts c.in-Some.ensures.made
