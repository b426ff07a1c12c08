use Rattle.std.proofs.Common.{◌≤◌, ◌<◌, ℕ, Option, List, ◌∷◌, arith, length, subst, sym}
use Rattle.std.specs.Prelude.{IfSome}
use Rattle.bank_clients.specs.Sessions.{AreSentBut, outside_of}
use Rattle.bank_clients.proofs.Deliveries.{delivers_but, delivers_to_all, sent_past}
use Rattle.bank_clients.proofs.Histories.{delivers}
use Rattle.bank_clients.proofs.Unread.{rests_at, rests_still}
use Rattle.bank_clients.proofs.delivery.deliver.Goals as goal

pub returns-then-place-len-clause-sent : goal.returns-then-place-len-clause-sent
returns-then-place-len-clause-sent g c =
    let full = (g.A.Arrivals.outgoing c.args.connections.now).full in
    let clients = c.args.clients.now.all in
    let past : length clients ≤ c.in-Some.place = omega (arith, c.if-place-len.true, c.len.ensures) in
    subst (λ (o : Option ℕ). IfSome o (λ place. (places : List ℕ) → AreSentBut full (place ∷ places) clients → AreSentBut full places clients))
    (sym c.in-Some.is) (λ places sent. sent_past full c.in-Some.place places clients past sent)

pub returns-clause-stands : goal.returns-clause-stands
returns-clause-stands g c =
    let outside = outside_of g.A.Arrivals.coming g.A.Arrivals.outgoing in
    let within : c.in-Some.place < length c.args.clients.now.all = omega (arith, c.if-place-len.false, c.len.ensures) in
    delivers (outside c.args.connections.now) (outside c.send-count.new.self) c.in-Some.place c.send-count.result c.outcomes.result.now
    c.args.clients.now.all c.sent.new.self.all within c.outcomes.ensures c.send-count.ensures.coming c.send-count.ensures.sent c.sent.ensures.served

pub returns-clause-sent : goal.returns-clause-sent
returns-clause-sent g c =
    let full = (g.A.Arrivals.outgoing c.args.connections.now).full in
    let full_after = (g.A.Arrivals.outgoing c.send-count.new.self).full in
    let within : c.in-Some.place < length c.args.clients.now.all = omega (arith, c.if-place-len.false, c.len.ensures) in
    subst (λ (o : Option ℕ). IfSome o (λ place. (places : List ℕ) → AreSentBut full (place ∷ places) c.args.clients.now.all
    → AreSentBut full_after places c.sent.new.self.all)) (sym c.in-Some.is)
    (λ places sent. delivers_but full full_after c.in-Some.place c.send-count.result places c.outcomes.result.now c.args.clients.now c.sent.new.self within
    c.outcomes.ensures c.send-count.ensures.full c.send-count.ensures.others c.sent.ensures.taken sent)

pub returns-clause-endings : goal.returns-clause-endings
returns-clause-endings g c =
    let within : c.in-Some.place < length c.args.clients.now.all = omega (arith, c.if-place-len.false, c.len.ensures) in
    (delivers_to_all c.in-Some.place c.send-count.result c.args.clients.now c.sent.new.self within c.sent.ensures.taken).0

pub returns-clause-stirred : goal.returns-clause-stirred
returns-clause-stirred g c =
    let within : c.in-Some.place < length c.args.clients.now.all = omega (arith, c.if-place-len.false, c.len.ensures) in
    (delivers_to_all c.in-Some.place c.send-count.result c.args.clients.now c.sent.new.self within c.sent.ensures.taken).1

pub returns-then-place-len-clause-rest : goal.returns-then-place-len-clause-rest
returns-then-place-len-clause-rest g c = rests_still c.args.clients.now.all (g.A.Arrivals.outgoing c.args.connections.now).sent

pub returns-clause-rest : goal.returns-clause-rest
returns-clause-rest g c =
    let within : c.in-Some.place < length c.args.clients.now.all = omega (arith, c.if-place-len.false, c.len.ensures) in
    rests_at c.in-Some.place c.send-count.result c.outcomes.result.now c.args.clients.now c.sent.new.self
    (g.A.Arrivals.outgoing c.args.connections.now).sent (g.A.Arrivals.outgoing c.send-count.new.self).sent within c.outcomes.ensures
    c.send-count.ensures.sent c.sent.ensures.taken
