use Rattle.std.proofs.Common.{◌%◌, length, sym, ap, subst, ◌∙◌}
use Rattle.sb_calls.proofs.DeclaredCowns.{declared_below}
use Rattle.sb_calls.specs.Op.{IsOpWithin}
use Rattle.sb_replica.specs.Log.{LogOf}
use Rattle.sb_replica.specs.inner.HeldOps.{IsReplicaLog}
use Rattle.sb_replica.specs.Offers.{log_with_entry}
use Rattle.sb_replica.proofs.LogInvariant.{keeps_taken}
use Rattle.sb_replica.proofs.LogView.{seen, seen_taken}
use Rattle.sb_replica.proofs.replica_log.ReplicaLog.take_next.Goals as goal

pub submit-requires : goal.submit-requires
submit-requires c =
    let board = c.self.inside.board in
    declared_below board.opening c.args.op c.length-length.ensures.bank.same
    (subst (λ (log : LogOf). IsOpWithin (length log.board.opening.savings) c.args.op) (sym c.self.view_is) c.requires.within)

pub invariant_of-self : goal.invariant_of-self
invariant_of-self c =
    let board = c.self.inside.board in
    let items = c.self.inside.held in
    subst IsReplicaLog
    (sym (seen_taken board items c.self.invariant c.args.op c.submit.new.self c.slot_of.result c.in-Ok.ensures.made.3
    (c.slot_of.ensures ∙ ap (λ n. n % 64) c.in-Ok.ensures.made.2)))
    (keeps_taken (seen board items) c.self.invariant c.args.op)

pub returns-in-Ok-clause-state : goal.returns-in-Ok-clause-state
returns-in-Ok-clause-state c =
    let board = c.self.inside.board in
    let items = c.self.inside.held in
    seen_taken board items c.self.invariant c.args.op c.submit.new.self c.slot_of.result c.in-Ok.ensures.made.3
    (c.slot_of.ensures ∙ ap (λ n. n % 64) c.in-Ok.ensures.made.2)
    ∙ ap (λ (log : LogOf). log_with_entry log c.args.op) c.self.view_is
