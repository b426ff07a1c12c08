use Rattle.std.proofs.Common.{◌≡◌, ◌++◌, ◌-◌, ◌≤◌, List, length, map, take}
use Rattle.cown_board.specs.Board.{length_of}
use Rattle.sb_calls.specs.Op.{op_of}
use Rattle.sb_calls.specs.declared.op.Op.{Op}
use Rattle.cown_workers.specs.Draining.{HasNoneOut}
use Rattle.sb_replica.specs.Replica.{rest_of}
use Rattle.bank_server.specs.NodeTurns.{TurnsLead}
use Rattle.bank_server.specs.inner.Appends.{HasOpsAt}
use Rattle.bank_server.proofs.node0.execution.submit_parts.Given as goal

-- the calls so far are submitted
abbrev pub invariant-loop-done : goal.invariant-loop-done
invariant-loop-done g l = record {
  opening : l.replica.board.opening ≡ l.fn.replica.board.opening;
  base_replies : l.replica.board.base_replies ≡ l.fn.replica.board.base_replies;
  cut : l.replica.board.cut ≡ l.fn.replica.board.cut;
  log : l.replica.board.log ≡ l.fn.replica.board.log ++ map (op_of l.fn.replica.names) (take l.done l.calls);
  within : l.done ≤ length l.calls;
  none_out : HasNoneOut l.fn.replica.board → HasNoneOut l.replica.board;
  beside : rest_of l.replica ≡ rest_of l.fn.replica;
  turns : (log : List Op) → HasOpsAt log (length_of l.fn.replica.board) (map (op_of l.fn.replica.names) l.calls)
      → TurnsLead log l.fn.replica l.replica;
  sent : l.done ≤ l.followers.sent;
  stays : l.followers ≡ record l.fn.followers { sent = l.followers.sent };
}

abbrev pub decreases-loop-done : goal.decreases-loop-done
decreases-loop-done g l = length l.calls - l.done
