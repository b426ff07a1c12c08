use Rattle.schedule_player.proofs.observers.AuditResults.{looked_up}
use Rattle.schedule_player.proofs.observers.Observers.{is_idle, was_idle}
use Rattle.schedule_player.proofs.world.World.idle.Goals as goal

pub returns : goal.returns
returns c =
    let w = c.self.inside in
    let node = c.index.result.now in
    let found = looked_up w.directory w.opening w.sequencer w.nodes.items c.args.self.now c.args.replica node c.self.view_is c.self.invariant
    c.requires c.index.ensures in (
      λ idle. is_idle c.args.self.now c.args.replica node found (c.idle.ensures.value.0 idle),
      λ idle. c.idle.ensures.value.1 (was_idle c.args.self.now c.args.replica node found idle),
    )
