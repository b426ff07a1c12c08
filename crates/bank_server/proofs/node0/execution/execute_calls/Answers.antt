use Rattle.std.proofs.Common.{◌≡◌, [], map, drop, length, sym, ap, subst, ◌∙◌, ◌++◌, append-nil, arith}
use Rattle.std.proofs.lemmas.Result.{on_ok_weaker}
use Rattle.sb_calls.specs.Op.{op_of}
use Rattle.cown_board.specs.Board.{length_of}
use Rattle.sb_replica.specs.Replica.{ReplicaOf, RestOf}
use Rattle.bank_server.specs.NodeTurns.{TurnsLead}
use Rattle.bank_server.specs.inner.Appends.{HasOpsAt}
use Rattle.bank_server.proofs.boards.NodeTurns.{goes_on, whatever}
use Rattle.bank_server.proofs.boards.Boards.{runs_log}
use Rattle.bank_server.proofs.node0.execution.execute_calls.Goals as goal

pub returns-clause-run : goal.returns-clause-run
returns-clause-run g c log same =
    let old = c.args.replica.now in
    let calls = c.args.calls.now in
    let kept = c.in_ok-reserve.ensures in
    let put = c.in_ok-submit_parts.ensures in
    let run = c.execute_unfinished.ensures.log in
    on_ok_weaker c.execute_unfinished.result
    (λ idle. runs_log old c.execute_unfinished.new.replica log calls same c.requires.customers
    (ap (λ (r : RestOf g.row.S.Denot). r.names) (c.execute_unfinished.ensures.rest ∙ put.rest) ∙ ap (λ (r : ReplicaOf g.row.S.Denot). r.names) kept)
    (run.opening ∙ put.put.opening ∙ ap (λ (r : ReplicaOf g.row.S.Denot). r.board.opening) kept)
    (record {
      idle = idle;
      base_replies = run.base_replies ∙ put.put.base_replies ∙ ap (λ (r : ReplicaOf g.row.S.Denot). r.board.base_replies) kept
          ∙ c.requires.opened.base_replies;
      log = run.log ∙ put.put.log ∙ ap (λ (r : ReplicaOf g.row.S.Denot). r.board.log ++ map (op_of r.names) calls) kept
          ∙ ap (λ l. l ++ map (op_of old.names) calls) c.requires.opened.log;
    }))
    c.execute_unfinished.ensures.idle

pub returns-clause-turns : goal.returns-clause-turns
returns-clause-turns g c =
    let old = c.args.replica.now in
    let calls = c.args.calls.now in
    let log = map (op_of old.names) calls in
    let kept = c.in_ok-reserve.ensures in
    let replies = ap length c.requires.opened.base_replies in
    let entries = ap length c.requires.opened.log in
    let none : length_of old.board ≡ 0 = omega (arith, replies, entries) in
    let has : HasOpsAt log (length_of old.board) log = ([], ap (λ n. drop n log) none ∙ sym (append-nil log)) in
    let put = subst (λ (r : ReplicaOf g.row.S.Denot). HasOpsAt log (length_of r.board) (map (op_of r.names) calls)
    → TurnsLead log r c.submit_parts.new.replica) kept (c.in_ok-submit_parts.ensures.turns log) has in
    whatever c.execute_unfinished.result (goes_on log put (c.execute_unfinished.ensures.turns log))
