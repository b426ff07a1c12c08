use Rattle.std.proofs.Common.{sym, subst}
use Rattle.sb_replica.specs.inner.HeldOps.{IsReplicaLog}
use Rattle.sb_replica.proofs.LogInvariant.{keeps_none}
use Rattle.sb_replica.proofs.LogView.{seen_none}
use Rattle.sb_replica.proofs.replica_log.ReplicaLog.with_board.Goals as goal

pub invariant_of-result : goal.invariant_of-result
invariant_of-result c =
    subst IsReplicaLog (sym (seen_none c.args.board c.empty_slots.result c.empty_slots.ensures)) (keeps_none c.args.board)

pub returns : goal.returns
returns c = seen_none c.args.board c.empty_slots.result c.empty_slots.ensures
