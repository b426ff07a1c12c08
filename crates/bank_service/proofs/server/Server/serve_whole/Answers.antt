use Rattle.std.proofs.Common.{subst}
use Rattle.std.proofs.lemmas.Result.{on_ok_weaker}
use Rattle.bank_server.proofs.boards.Boards.{idle_none_out}
use Rattle.bank_clients.specs.Sessions.{outside_of}
use Rattle.bank_service.specs.ServedBank.{IsBankAfter}
use Rattle.program_words.specs.declared.plan.Plan.{Plan}
use Rattle.bank_service.proofs.ServingAtOnce.{serves_at_once}
use Rattle.bank_service.proofs.server.Server.serve_whole.Goals as goal

pub serve_all-requires-clause-none_out : goal.serve_all-requires-clause-none_out
serve_all-requires-clause-none_out g c =
    λ e. idle_none_out c.finish_session.new.primary.node.board c.in_ok-finish_session.ensures.bank_after.all.idle

pub returns-clause-served : goal.returns-clause-served
returns-clause-served g c =
    let outside = outside_of g.A.Arrivals.coming g.A.Arrivals.outgoing in
    let model = g.S.CheckpointStore.model in
    let keeper = g.K.Keeper.model in
    let contents = g.W.Write.contents in
    let first = c.args.self.now in
    let opened = c.finish_session.new.primary in
    let served = c.serve_all.new.self in
    let last = c.finish_session-2.new.primary in
    on_ok_weaker c.print_rows.result (λ rows. serves_at_once model keeper first.plan first.port (outside first.sessions.connections)
    (outside served.sessions.connections) first.sessions.clients.all served.sessions.clients.all first.primary opened served.primary last
    (contents first.writer) (contents c.print_log.new.writer) (contents c.print_port.new.writer) (contents served.writer)
    (contents c.print_log-2.new.writer) (contents c.print_rows.new.writer) c.in_ok-finish_session.ensures.bank_after c.finish_session.ensures.log
    c.in_ok-print_log.ensures.printed c.in_ok-print_port.ensures.printed c.in_ok-serve_all.ensures.served
    (subst (λ (plan : Plan). IsBankAfter model keeper plan.saves 1 served.primary last) c.serve_all.ensures.plan
    c.in_ok-finish_session-2.ensures.bank_after) c.finish_session-2.ensures.log c.in_ok-print_log-2.ensures.printed rows)
    c.print_rows.ensures.printed
