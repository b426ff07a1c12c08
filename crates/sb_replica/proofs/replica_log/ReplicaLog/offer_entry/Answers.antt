use Rattle.std.proofs.Common.{length, sym, ap, subst, ◌∙◌, arith}
use Rattle.sb_calls.specs.Op.{IsOpWithin}
use Rattle.sb_replica.specs.Log.{LogOf}
use Rattle.sb_replica.specs.inner.HeldOps.{IsReplicaLog}
use Rattle.sb_replica.specs.Offers.{log_with_held}
use Rattle.sb_replica.proofs.LogInvariant.{keeps_held}
use Rattle.sb_replica.proofs.LogView.{seen, seen_held}
use Rattle.sb_replica.proofs.replica_log.ReplicaLog.offer_entry.Goals as goal

pub invariant_of-self : goal.invariant_of-self
invariant_of-self c =
    let board = c.self.inside.board in
    let items = c.self.inside.held in
    subst IsReplicaLog
    (sym (seen_held board items c.self.invariant c.args.op c.args.number c.slot_of.result (omega arith) (omega arith) c.slot_of.ensures))
    (keeps_held (seen board items) c.self.invariant c.args.number c.args.op (omega arith) (omega arith)
    (subst (λ (log : LogOf). IsOpWithin (length log.board.opening.savings) c.args.op) (sym c.self.view_is) c.requires))

pub returns-then-number-length-3-clause-state : goal.returns-then-number-length-3-clause-state
returns-then-number-length-3-clause-state c =
    seen_held c.self.inside.board c.self.inside.held c.self.invariant c.args.op c.args.number c.slot_of.result (omega arith) (omega arith) c.slot_of.ensures
    ∙ ap (λ (log : LogOf). log_with_held log c.args.number c.args.op) c.self.view_is
