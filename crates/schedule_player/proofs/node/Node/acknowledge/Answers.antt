use Rattle.schedule_player.proofs.entries.FrameSteps.{acknowledges}
use Rattle.schedule_player.proofs.node.Node.acknowledge.Goals as goal

pub returns : goal.returns
returns c bank r is =
    acknowledges bank r c.args.self.now c.add.new.self c.ack_frame-frame.result c.in_ok-position.position is c.ack_frame-frame.ensures
    c.in_ok-position.ensures.sent c.in_ok-position.ensures.position
