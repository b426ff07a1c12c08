use Rattle.std.proofs.Common.{sym, ap, subst}
use Rattle.schedule_player.specs.inner.NodeInvariant.{MovesTo, machine_node}
use Rattle.schedule_player.specs.ReplicaMoves.{deliver_move}
use Rattle.schedule_player.proofs.NodeMoves.{node_fails}
use Rattle.schedule_player.proofs.entries.FrameSteps.{delivers, wants_delivered}
use Rattle.schedule_player.proofs.node.Node.deliver.Goals as goal

pub returns-in-Ok : goal.returns-in-Ok
returns-in-Ok c bank r is =
    let old = c.args.self.now in
    subst (λ n. MovesTo bank r (record old { replica = c.on_frame.new.self }) n (deliver_move (machine_node old) c.args.position)) (sym c.heard_note.ensures)
    (delivers bank r old c.on_frame.new.self c.args.position c.in-Some.bytes.now c.in-Some.ensures.0 c.in-Ok.heard is
    c.in-Some.ensures.1 c.in-Some.ensures.2 c.in-Ok.ensures.outcome)

pub returns-in-Err : goal.returns-in-Err
returns-in-Err c bank r is =
    node_fails bank r c.args.self.now (record c.args.self.now { replica = c.on_frame.new.self }) is
    (ap (λ rep. record c.args.self.now { replica = rep }) c.in-Err.ensures.outcome.1)
    (wants_delivered bank r c.args.self.now c.args.position c.in-Some.bytes.now c.in-Some.ensures.0 c.in-Err.field-0 is
    c.in-Some.ensures.1 c.in-Some.ensures.2 c.in-Err.ensures.outcome.0)
