use Rattle.std.proofs.Common.{sym, subst}
use Rattle.sb_sequencer.specs.Sequencer.{IsSequencer}
use Rattle.schedule_player.specs.inner.WorldInvariant.{IsWorld}
use Rattle.schedule_player.proofs.logs.WorldLogs.{world_synced}
use Rattle.schedule_player.proofs.world.World.sync_log.Goals as goal

pub invariant_of-self : goal.invariant_of-self
invariant_of-self c =
    let w = c.self.inside in
    let is = c.sync.ensures in
    subst (λ s. IsWorld w.directory w.opening s.synced w.nodes.items) (sym is)
    (world_synced w.directory w.opening w.sequencer w.nodes.items c.self.invariant
    (subst (λ s. IsSequencer s.synced) is c.length.ensures.valid))
