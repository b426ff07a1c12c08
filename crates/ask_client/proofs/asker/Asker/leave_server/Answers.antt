use Rattle.std.proofs.Common.{Option, [], append-nil, subst, sym, ◌∙◌}
use Rattle.std.proofs.KnownBytes.{Consumes-nil}
use Rattle.sb_frames.specs.declared.frame.AskOutcome.{AskOutcome}
use Rattle.std.proofs.Common.{List}
use Rattle.ask_client.specs.Connections.{BringsAll}
use Rattle.ask_client.specs.inner.Progress.{BringsSoFar}
use Rattle.ask_client.specs.declared.server_stream.ServerStream.{ServerStream}
use Rattle.ask_client.proofs.Connections.{open_left}
use Rattle.ask_client.proofs.asker.Asker.leave_server.Goals as goal

pub returns-in-Some : goal.returns-in-Some
returns-in-Some g c client start first told brings =
    let now = g.D.Dialer.streams c.args.dialer.now in
    let new = g.D.Dialer.streams c.leave.new.self in
    let stream = c.in-Some.stream in
    let before = subst (λ (o : Option (ServerStream g.row.R.Denot g.row.W.Denot)). BringsSoFar g.R.Read.remaining client start now o first told)
    (sym c.take.ensures.value ∙ c.in-Some.is) brings in
    subst (λ (l : List AskOutcome). BringsAll {W = g.row.W.Denot} g.R.Read.remaining client (λ left. Unit {0}) start new first l) (append-nil told)
    (open_left g.R.Read.remaining client (λ left. Unit {0}) start now new first told [] [] stream stream before
    (Consumes-nil (g.R.Read.remaining stream.reader)) c.leave.ensures.left (λ left. tt))
