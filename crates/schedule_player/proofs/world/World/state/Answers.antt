use Rattle.std.proofs.Common.{subst}
use Rattle.schedule_player.specs.EventLists.{bank_after}
use Rattle.schedule_player.specs.LogAgreement.{WorldAgreesWithLog}
use Rattle.schedule_player.proofs.observers.AuditResults.{looked_up}
use Rattle.schedule_player.proofs.checkpoints.WorldStates.{state_here, state_by_log}
use Rattle.schedule_player.proofs.events.EventLists.{played_bank}
use Rattle.schedule_player.proofs.openings.WorldOpening.{true_to_log}
use Rattle.schedule_player.proofs.world.World.state.Goals as goal

pub returns-clause-value : goal.returns-clause-value
returns-clause-value c =
    let w = c.self.inside in
    let node = c.index.result.now in
    let found = looked_up w.directory w.opening w.sequencer w.nodes.items c.args.self.now c.args.replica node c.self.view_is c.self.invariant
    c.requires c.index.ensures in
    state_here c.args.self.now c.args.replica node found c.args.position c.get.result c.get.ensures

pub returns-clause-by_log : goal.returns-clause-by_log
returns-clause-by_log c schedule played =
    let w = c.self.inside in
    state_by_log c.args.self.now c.args.replica c.args.position (bank_after schedule) c.get.result
    (subst WorldAgreesWithLog c.self.view_is (true_to_log w.directory w.opening w.sequencer w.nodes.items c.self.invariant))
    (played_bank schedule c.args.self.now played) (returns-clause-value c)
