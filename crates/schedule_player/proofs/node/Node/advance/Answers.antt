use Rattle.std.proofs.Common.{Some, None, sym, ap, subst, ◌∙◌}
use Rattle.sb_replica.specs.Replica.{log_of}
use Rattle.schedule_player.specs.inner.NodeInvariant.{MovesTo, machine_node}
use Rattle.schedule_player.specs.ReplicaMoves.{next_move}
use Rattle.schedule_player.specs.World.{may_take_memory}
use Rattle.schedule_player.proofs.NodeMoves.{node_fails}
use Rattle.schedule_player.proofs.entries.EntryOffers.{takes_next}
use Rattle.schedule_player.proofs.entries.FrameSteps.{advances}
use Rattle.schedule_player.proofs.node.Node.advance.Goals as goal

pub returns-in-Ok-Some : goal.returns-in-Ok-Some
returns-in-Ok-Some c bank r is =
    let old = c.args.self.now in
    subst (λ n. MovesTo bank r (record old { replica = c.advance.new.self }) n (next_move (machine_node old))) (sym c.heard_note.ensures)
    (advances bank r old c.advance.new.self (Some c.in-Ok-Some.heard) is
    (sym c.in-Ok-Some.field-0-is ∙ c.in-Ok-Some.ensures.answer) c.in-Ok-Some.ensures.state)

pub returns-in-Ok-None : goal.returns-in-Ok-None
returns-in-Ok-None c bank r is =
    advances bank r c.args.self.now c.advance.new.self None is
    (sym c.in-Ok-None.field-0-is ∙ c.in-Ok-None.ensures.answer) c.in-Ok-None.ensures.state

pub returns-in-Err : goal.returns-in-Err
returns-in-Err c bank r is =
    node_fails bank r c.args.self.now (record c.args.self.now { replica = c.advance.new.self }) is
    (ap (λ rep. record c.args.self.now { replica = rep }) c.in-Err.ensures.state)
    (ap may_take_memory (takes_next (machine_node c.args.self.now) (log_of c.args.self.now.replica) c.in-Err.ensures.err.1).1)
