use Rattle.std.proofs.Common.{ap, arith, length}
use Rattle.schedule_player.proofs.checkpoints.WorldStates.{no_donor}
use Rattle.schedule_player.proofs.world.World.note_donor.Goals as goal

pub returns-in_default : goal.returns-in_default
returns-in_default c donor size =
    let known = c.self.invariant.known in
    let few = c.self.invariant.few in
    let same = ap (λ w. length w.sequencer.synced.recorded) c.self.view_is in
    no_donor c.args.self.now.sequencer.synced c.args.replica donor size (omega (arith, known, few, same)) c.in_default.ensures
