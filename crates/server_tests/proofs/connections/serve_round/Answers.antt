use Rattle.std.proofs.Common.{length, rules}
use Rattle.bank_clients.specs.Sessions.{AreReady}
use Rattle.server_tests.proofs.connections.serve_round.Goals as goal

pub serve-requires : goal.serve-requires
serve-requires g c = record { ready = c.wait.ensures.ready (length c.args.primary.now.log) c.requires.ready }

pub leave_next-requires-2 : goal.leave_next-requires-2
leave_next-requires-2 g c =
    let calls = length c.serve.new.primary.log in
    let served : AreReady g.A.Arrivals.outgoing g.A.Connections.writable_places calls c.serve.new.self = search rules in
    record { listed = (c.leave_next.ensures.ready calls served).listed }

pub next_over-requires : goal.next_over-requires
next_over-requires g c =
    let calls = length c.serve.new.primary.log in
    let served : AreReady g.A.Arrivals.outgoing g.A.Connections.writable_places calls c.serve.new.self = search rules in
    (c.leave_next-2.ensures.ready calls (c.leave_next.ensures.ready calls served)).listed

pub returns : goal.returns
returns g c =
    let calls = length c.serve.new.primary.log in
    let served : AreReady g.A.Arrivals.outgoing g.A.Connections.writable_places calls c.serve.new.self = search rules in
    record { ready = c.leave_next-2.ensures.ready calls (c.leave_next.ensures.ready calls served) }
