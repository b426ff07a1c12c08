use Rattle.schedule_player.proofs.hands.WorldOutInHands.{able_at}
use Rattle.schedule_player.proofs.world.World.workers.Goals as goal

pub returns-clause-able : goal.returns-clause-able
returns-clause-able c =
    let w = c.self.inside in
    able_at w.directory w.opening w.sequencer w.nodes.items c.args.self.now c.args.replica c.index.result.now c.self.view_is c.self.invariant
    c.requires c.index.ensures
