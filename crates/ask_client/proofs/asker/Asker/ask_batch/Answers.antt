use Rattle.std.proofs.Common.{arith, refl}
use Rattle.ask_client.specs.inner.Progress.{ask_state}
use Rattle.ask_client.proofs.MoreTold.{tells_none}
use Rattle.ask_client.proofs.asker.Asker.ask_batch.Goals as goal

pub loop-init : goal.loop-init
loop-init g c =
    let at = ask_state (g.D.Dialer.streams c.args.dialer.now) c.args.self.now.stream c.args.self.now.batch (g.O.Write.contents c.args.output.now) in
    record { tells = tells_none g.R.Read.remaining at at refl refl (λ client start first told brings. brings); count = omega arith; plan = refl }
