use Rattle.std.proofs.Common.{subst}
use Rattle.schedule_player.specs.LogAgreement.{WorldAgreesWithLog}
use Rattle.schedule_player.proofs.openings.WorldOpening.{true_to_log}
use Rattle.schedule_player.proofs.world.World.replicas.Goals as goal

pub returns-clause-agrees_with_log : goal.returns-clause-agrees_with_log
returns-clause-agrees_with_log c =
    let w = c.self.inside in
    subst WorldAgreesWithLog c.self.view_is (true_to_log w.directory w.opening w.sequencer w.nodes.items c.self.invariant)
