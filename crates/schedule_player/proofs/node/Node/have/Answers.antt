use Rattle.schedule_player.proofs.checkpoints.StateMoves.{tells_kept}
use Rattle.schedule_player.proofs.node.Node.have.Goals as goal

pub returns-in_ok-position-in-Ok : goal.returns-in_ok-position-in-Ok
returns-in_ok-position-in-Ok c bank r is =
    let told = c.in-Ok.ensures.ok in
    tells_kept bank r c.args.self.now c.have_frame.new.self told.0 c.add.new.self c.in-Ok.frame c.in_ok-position-in-Ok.position is told.1 told.2
    c.in_ok-position-in-Ok.ensures.sent c.in_ok-position-in-Ok.ensures.position
