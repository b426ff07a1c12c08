use Rattle.std.proofs.Common.{◌≡◌, ◌++◌, ◌+◌, List, length, drop}
use Rattle.cown_board.specs.Board.{length_of}
use Rattle.cown_workers.specs.Draining.{HasNoneOut}
use Rattle.sb_calls.specs.declared.op.Op.{Op}
use Rattle.sb_replica.specs.Replica.{rest_of}
use Rattle.bank_server.specs.NodeTurns.{TurnsLead}
use Rattle.bank_server.specs.inner.Appends.{HasOpsAt}
use Rattle.bank_server.proofs.node0.execution.submit_all.Given as goal

-- the ops so far are submitted
abbrev pub invariant-loop-op : goal.invariant-loop-op
invariant-loop-op g l = record {
  opening : l.replica.board.opening ≡ l.fn.replica.board.opening;
  base_replies : l.replica.board.base_replies ≡ l.fn.replica.board.base_replies;
  log : l.replica.board.log ++ drop l.op-index l.ops ≡ l.fn.replica.board.log ++ l.ops;
  cut : l.replica.board.cut ≡ l.fn.replica.board.cut;
  count : length l.replica.board.log ≡ length l.fn.replica.board.log + l.op-index;
  none_out : HasNoneOut l.fn.replica.board → HasNoneOut l.replica.board;
  beside : rest_of l.replica ≡ rest_of l.fn.replica;
  turns : (log : List Op) → HasOpsAt log (length_of l.fn.replica.board) l.ops → TurnsLead log l.fn.replica l.replica;
}
