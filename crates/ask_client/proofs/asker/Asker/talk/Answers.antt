use Rattle.std.proofs.Common.{Option, List, ℕ, subst, sym, Ok, Err}
use Rattle.ask_client.specs.Conversations.{Hears}
use Rattle.ask_client.specs.declared.server_stream.ServerStream.{ServerStream}
use Rattle.ask_client.specs.inner.Progress.{TellsOver}
use Rattle.ask_client.proofs.MoreTold.{talked_off, talked_on}
use Rattle.ask_client.proofs.asker.Asker.talk.Goals as goal

pub returns-in-Ok-clause-tells : goal.returns-in-Ok-clause-tells
returns-in-Ok-clause-tells g c =
    let stream = c.args.stream in
    let new = c.converse-talked.new in
    let heard = subst (λ (l : List ℕ). Hears c.args.self.now.batch (Ok tt) (g.R.Read.remaining stream.reader) (g.R.Read.remaining new.stream.reader)
    l new.lines.items new.batch) c.clear.ensures.items c.in-Ok.ensures.heard in
    talked_on g.R.Read.remaining c.args.self.now.batch new.batch new.lines.items (g.D.Dialer.streams c.args.dialer.now) stream new.stream heard

pub returns-in-Err-clause-tells : goal.returns-in-Err-clause-tells
returns-in-Err-clause-tells g c =
    let stream = c.args.stream in
    let new = c.converse-talked.new in
    let fault = c.in-Err.field-0 in
    let now = g.D.Dialer.streams c.args.dialer.now in
    let then = g.D.Dialer.streams c.leave.new.self in
    let heard = subst (λ (l : List ℕ). Hears c.args.self.now.batch (Err fault) (g.R.Read.remaining stream.reader) (g.R.Read.remaining new.stream.reader)
    l new.lines.items new.batch) c.clear.ensures.items c.in-Err.ensures.heard in
    subst (λ (o : Option (ServerStream g.row.R.Denot g.row.W.Denot)).
    TellsOver g.R.Read.remaining now stream c.args.self.now.batch then o new.batch new.lines.items) (sym c.requires)
    (talked_off g.R.Read.remaining c.args.self.now.batch new.batch new.lines.items now then stream new.stream fault heard c.leave.ensures.left)
