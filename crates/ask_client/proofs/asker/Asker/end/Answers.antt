use Rattle.std.proofs.Common.{Option, List, [], append-nil, subst, sym, ◌∙◌}
use Rattle.sb_frames.specs.declared.frame.AskOutcome.{AskOutcome}
use Rattle.ask_client.specs.Asking.{LeavesAll}
use Rattle.ask_client.specs.Connections.{BringsAll}
use Rattle.ask_client.specs.declared.server_stream.ServerStream.{ServerStream}
use Rattle.ask_client.specs.inner.Progress.{BringsSoFar}
use Rattle.ask_client.proofs.Connections.{leaves_all, open_left}
use Rattle.ask_client.proofs.asker.Asker.end.Goals as goal

pub returns-clause-ended : goal.returns-clause-ended
returns-clause-ended g c start told next brings =
    let now = g.D.Dialer.streams c.args.dialer.now in
    let new = g.D.Dialer.streams c.leave.new.self in
    let client = c.args.self.now.batch.client in
    let first = c.args.self.now.plan.first in
    let stream = c.in-Some.stream in
    let last : ServerStream g.row.R.Denot g.row.W.Denot = record { reader = c.hear_end-ended.new.reader; writer = stream.writer } in
    let Left : List (ServerStream g.row.R.Denot g.row.W.Denot) → Type 0 = LeavesAll g.R.Read.remaining c.hear_end-ended.result told in
    let before = subst (λ (o : Option (ServerStream g.row.R.Denot g.row.W.Denot)). BringsSoFar g.R.Read.remaining client start now o first told)
    (sym c.take.ensures.value ∙ c.in-Some.is) brings in
    let (rest, reads, end) = c.hear_end-ended.ensures.taken in
    subst (λ (l : List AskOutcome). BringsAll g.R.Read.remaining client Left start new first l) (append-nil told)
    (open_left g.R.Read.remaining client Left start now new first told [] rest stream last before reads c.leave.ensures.left
    (leaves_all g.R.Read.remaining client c.hear_end-ended.result told rest last end))
