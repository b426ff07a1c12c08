use Rattle.std.proofs.Common.{length}
use Rattle.std.proofs.lemmas.Result.{IfOk-at_ok}
use Rattle.server_tests.proofs.connections.expect_case.Goals as goal

pub serve_round-requires : goal.serve_round-requires
serve_round-requires g c = record {
  ready = IfOk-at_ok _ c.expect-sessions.ensures c.open.ensures.ready (length c.deref_mut.result.now.log);
}
