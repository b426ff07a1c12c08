use Rattle.std.proofs.Common.{refl}
use Rattle.ask_client.specs.inner.Progress.{ask_state}
use Rattle.ask_client.proofs.MoreTold.{tells_none}
use Rattle.ask_client.proofs.asker.Asker.ask_full.Goals as goal

pub returns-then-len-self-clause-tells : goal.returns-then-len-self-clause-tells
returns-then-len-self-clause-tells g c =
    let at = ask_state (g.D.Dialer.streams c.args.dialer.now) c.args.self.now.stream c.args.self.now.batch (g.O.Write.contents c.args.output.now) in
    tells_none g.R.Read.remaining at at refl refl (λ client start first told brings. brings)
