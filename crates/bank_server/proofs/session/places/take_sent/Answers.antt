use Rattle.std.proofs.Common.{◌≡◌, Some, get_or, sym, subst, take}
use Rattle.std.specs.Prelude.{IfSome, slice_get, slice_set}
use Rattle.std.proofs.lemmas.Option.{slice_get-get_or}
use Rattle.bank_server.specs.Clients.{ClientOf, StaysReady, StaysServed, sends}
use Rattle.bank_server.proofs.clients.ClientPlaces.{sends_ready, sends_served}
use Rattle.bank_server.proofs.session.places.take_sent.Goals as goal

pub returns-clause-ready : goal.returns-clause-ready
returns-clause-ready c =
    let all = c.args.all.now in
    let place = c.args.place in
    let client = get_or all place c.index-all-place.result in
    let is : slice_get all place ≡ Some client = slice_get-get_or all place c.index-all-place.result c.requires.place in
    subst (λ (x : ClientOf). StaysReady all (slice_set all place x)) (sym c.sent.ensures) (sends_ready all place c.args.count client is)

pub returns-clause-served : goal.returns-clause-served
returns-clause-served c =
    let all = c.args.all.now in
    let place = c.args.place in
    let count = c.args.count in
    let client = get_or all place c.index-all-place.result in
    let is : slice_get all place ≡ Some client = slice_get-get_or all place c.index-all-place.result c.requires.place in
    subst (λ o. IfSome o (λ (x : ClientOf). StaysServed (sends place (take count x.outcomes)) all (slice_set all place c.sent.new.self))) (sym is)
    (subst (λ (x : ClientOf). StaysServed (sends place (take count client.outcomes)) all (slice_set all place x)) (sym c.sent.ensures)
    (sends_served all place count client is))
