use Rattle.std.proofs.Common.{length}
use Rattle.bank_server.specs.Primary.{opening_rows_of}
use Rattle.bank_clients.specs.History.{first_history}
use Rattle.bank_clients.proofs.Histories.{begins_ready, begins_served}
use Rattle.bank_service.proofs.ServingAtOnce.{no_entries_none_out}
use Rattle.bank_service.proofs.serving.serve_beside.Goals as goal

pub with_team-requires-clause-ready : goal.with_team-requires-clause-ready
with_team-requires-clause-ready g c κs within =
    let server = c.args.server in
    let clients = server.sessions.clients.all in
    let log = server.primary.log in (
      no_entries_none_out server.primary.node.board c.requires.opened,
      begins_ready g.A.Arrivals.outgoing g.A.Connections.writable_places (length log) server.sessions c.requires.fresh,
      (first_history log, begins_served (opening_rows_of server.primary) log clients c.node-node.ensures.valid.log c.requires.fresh),
    )
