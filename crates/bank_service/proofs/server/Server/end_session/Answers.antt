use Rattle.std.proofs.Common.{List, length, subst, sym}
use Rattle.sb_calls.specs.declared.ask.Key.{Key}
use Rattle.sb_calls.specs.declared.call.Call.{Call}
use Rattle.bank_server.proofs.boards.WholeReplies.{ok_always}
use Rattle.bank_clients.specs.Sessions.{AreReady}
use Rattle.bank_service.proofs.server.Server.end_session.Goals as goal

pub returns-clause-ready : goal.returns-clause-ready
returns-clause-ready g c =
    let log = c.args.self.now.primary.log in
    ok_always c.print_session-printed.result
    (subst (λ (l : List (Key × Call)). AreReady g.A.Arrivals.outgoing g.A.Connections.writable_places (length l) c.leave.new.self)
    (sym c.finish_session.ensures.log) (c.leave.ensures.ready (length log) c.requires.ready))
