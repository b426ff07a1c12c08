use Rattle.std.proofs.Common.{◌≡◌, ◌≤◌, ◌<◌, ℕ, List, length, subst, ap, ◌∙◌}
use Rattle.std.specs.Prelude.{slice_get}
use Rattle.bank_clients.specs.Sessions.{outside_of}
use Rattle.bank_clients.proofs.Deliveries.{sent_on, sent_to_all}
use Rattle.bank_clients.proofs.Histories.{stands_then}
use Rattle.bank_clients.proofs.Places.{read_at}
use Rattle.bank_clients.proofs.Unread.{rests_then}
use Rattle.bank_clients.proofs.delivery.deliver_new.Goals as goal

pub loop-index-preserved : goal.loop-index-preserved
loop-index-preserved g c =
    let outside = outside_of g.A.Arrivals.coming g.A.Arrivals.outgoing in
    let places = c.args.clients.now.stirred in
    let loop = c.loop-index in
    let kept = loop.invariant in
    let step = c.deliver.ensures in
    let within : loop.index < length places = subst (λ (l : List ℕ). loop.index < length l) c.stirred-index-end.ensures c.loop-index-test.true in
    let is : c.copied-place.result ≡ slice_get places loop.index =
    c.copied-place.ensures ∙ read_at c.stirred.result.now loop.index c.get.result c.get.ensures.lookup
    ∙ ap (λ (l : List ℕ). slice_get l loop.index) (c.stirred.ensures ∙ kept.stirred) in
    record {
      stands = stands_then (outside c.args.connections.now) (outside loop.connections) (outside c.deliver.new.connections) c.args.clients.now.all
          loop.clients.all c.deliver.new.clients.all kept.stands step.stands;
      sent = λ sent. sent_on (g.A.Arrivals.outgoing loop.connections).full (g.A.Arrivals.outgoing c.deliver.new.connections).full places loop.index
          c.copied-place.result loop.clients.all c.deliver.new.clients.all is within step.sent (kept.sent sent);
      rest = rests_then c.args.clients.now.all loop.clients.all c.deliver.new.clients.all (g.A.Arrivals.outgoing c.args.connections.now).sent
          (g.A.Arrivals.outgoing loop.connections).sent (g.A.Arrivals.outgoing c.deliver.new.connections).sent kept.rest step.rest;
      ready = λ calls h. step.ready calls (kept.ready calls h);
      endings = step.endings ∙ kept.endings;
      stirred = step.stirred ∙ kept.stirred;
    }

pub returns-clause-sent : goal.returns-clause-sent
returns-clause-sent g c sent =
    let places = c.args.clients.now.stirred in
    let loop = c.loop-index in
    let past : length places ≤ loop.index = subst (λ (l : List ℕ). length l ≤ loop.index) c.stirred-index-end.ensures c.loop-index-test.false in
    sent_to_all (g.A.Arrivals.outgoing loop.connections).full places loop.index loop.clients.all past (loop.invariant.sent sent)
