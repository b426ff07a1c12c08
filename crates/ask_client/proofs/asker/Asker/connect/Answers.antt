use Rattle.std.proofs.Common.{Option, subst, sym, ◌∙◌}
use Rattle.ask_client.specs.inner.Progress.{BringsSoFar}
use Rattle.ask_client.specs.declared.server_stream.ServerStream.{ServerStream}
use Rattle.ask_client.proofs.Connections.{one_made}
use Rattle.ask_client.proofs.asker.Asker.connect.Goals as goal

pub returns-in-Ok-clause-open : goal.returns-in-Ok-clause-open
returns-in-Ok-clause-open g c client start first told brings =
    let now = g.D.Dialer.streams c.args.dialer.now in
    let before = subst (λ (o : Option (ServerStream g.row.R.Denot g.row.W.Denot)). BringsSoFar g.R.Read.remaining client start now o first told)
    (sym c.take.ensures.value ∙ c.in-None.is) brings in
    one_made g.R.Read.remaining client start now (g.D.Dialer.streams c.dial.new.self) first told c.in-Ok.stream before c.in-Ok.ensures.next
