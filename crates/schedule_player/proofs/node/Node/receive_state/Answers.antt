use Rattle.schedule_player.proofs.checkpoints.StateMoves.{receives}
use Rattle.schedule_player.proofs.node.Node.receive_state.Goals as goal

pub returns : goal.returns
returns c bank r is consistent =
    receives bank r c.args.self.now c.add.new.self c.args.bytes.items c.in_ok-position.position is consistent
    c.in_ok-position.ensures.sent c.in_ok-position.ensures.position
