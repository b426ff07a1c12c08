-- What is finished was out.
use Rattle.std.proofs.Common.{Some, arith}
use Rattle.sb_calls.specs.Behaviour.{declared_cowns, effect_of}
use Rattle.cown_workers.proofs.BoardSteps.{Finishes-drains, Finishes-counts}
use Rattle.cown_workers.proofs.CrewExchanges.{Exchanged-one}
use Rattle.cown_workers.specs.Draining.{HandedOver}
use Rattle.cown_workers.proofs.draining.finish_next.Goals as goal

pub returns-in-Ok-clause-ok : goal.returns-in-Ok-clause-ok
returns-in-Ok-clause-ok g c = let h = Finishes-counts declared_cowns effect_of c.in-Ok.ensures.made in omega (arith, h)

pub returns-in-Ok-clause-log : goal.returns-in-Ok-clause-log
returns-in-Ok-clause-log g c = Finishes-drains declared_cowns effect_of c.in-Ok.ensures.made

pub returns-in-Ok-clause-exchanged : goal.returns-in-Ok-clause-exchanged
returns-in-Ok-clause-exchanged g c =
    Exchanged-one g.C.Crew.acts (HandedOver (Some c.in-Some.done)) c.in-Some.ensures.acts (c.requires, (c.in-Ok.field-0, c.in-Ok.ensures.made))
