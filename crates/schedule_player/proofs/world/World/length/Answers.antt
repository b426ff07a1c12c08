use Rattle.schedule_player.proofs.observers.AuditResults.{looked_up}
use Rattle.schedule_player.proofs.observers.Observers.{length_here}
use Rattle.schedule_player.proofs.world.World.length.Goals as goal

pub returns : goal.returns
returns c =
    let w = c.self.inside in
    let node = c.index.result.now in
    let found = looked_up w.directory w.opening w.sequencer w.nodes.items c.args.self.now c.args.replica node c.self.view_is c.self.invariant
    c.requires c.index.ensures in
    length_here c.args.self.now c.args.replica node found c.length.result c.length.ensures.value
