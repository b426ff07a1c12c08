use Rattle.std.proofs.Common.{sym, subst}
use Rattle.std.specs.Prelude.{slice_set}
use Rattle.bank_server.specs.Clients.{ClientOf, StaysReady, StaysServed, no_past, past_with}
use Rattle.bank_server.proofs.clients.ClientPlaces.{vacates_ready, vacates_served}
use Rattle.bank_server.proofs.session.places.vacate_place.Goals as goal

pub returns-clause-ready : goal.returns-clause-ready
returns-clause-ready c =
    subst (λ (x : ClientOf). StaysReady c.args.all.now (slice_set c.args.all.now c.args.place x)) (sym c.new.ensures)
    (vacates_ready c.args.limits c.args.all.now c.args.place)

pub returns-clause-served : goal.returns-clause-served
returns-clause-served c =
    subst (λ (x : ClientOf). StaysServed (past_with c.args.place no_past) c.args.all.now (slice_set c.args.all.now c.args.place x)) (sym c.new.ensures)
    (vacates_served c.args.limits c.args.all.now c.args.place c.requires)
