use Rattle.std.proofs.Common.{sym, subst}
use Rattle.sb_sequencer.specs.Sequencer.{IsSequencer}
use Rattle.schedule_player.specs.inner.WorldInvariant.{IsWorld}
use Rattle.schedule_player.proofs.logs.WorldLogs.{world_crashed}
use Rattle.schedule_player.proofs.world.World.restart_sequencer.Goals as goal

pub invariant_of-self-2 : goal.invariant_of-self-2
invariant_of-self-2 c =
    let w = c.self.inside in
    let is = c.in_ok-crash.ensures.ok in
    subst (λ s. IsWorld w.directory w.opening s.synced w.nodes.items) (sym is)
    (world_crashed w.directory w.opening w.sequencer w.nodes.items c.args.kept c.self.invariant
    (subst (λ s. IsSequencer s.synced) is c.length.ensures.valid))
