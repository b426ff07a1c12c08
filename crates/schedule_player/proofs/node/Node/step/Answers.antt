use Rattle.std.proofs.Common.{sym, subst}
use Rattle.schedule_player.specs.inner.NodeInvariant.{MovesTo, machine_node}
use Rattle.schedule_player.specs.ReplicaMoves.{node_move}
use Rattle.schedule_player.specs.World.{bank_with}
use Rattle.schedule_player.proofs.node.Node.step.Goals as goal

pub returns-in-Take : goal.returns-in-Take
returns-in-Take c names opening lt is =
    let s = c.args.sequencer.now.synced in
    let bank = bank_with names opening s.log in
    let r = c.args.replica in
    subst (λ happens. MovesTo bank r c.take_job.new.self c.take_job.result (node_move bank s r (machine_node c.args.self.now) happens)) (sym c.in-Take.is)
    (c.take_job.ensures bank r is)

pub returns-in-Finish : goal.returns-in-Finish
returns-in-Finish c names opening lt is =
    let s = c.args.sequencer.now.synced in
    let bank = bank_with names opening s.log in
    let r = c.args.replica in
    subst (λ happens. MovesTo bank r c.finish_job.new.self c.finish_job.result (node_move bank s r (machine_node c.args.self.now) happens)) (sym c.in-Finish.is)
    (c.finish_job.ensures bank r is)
