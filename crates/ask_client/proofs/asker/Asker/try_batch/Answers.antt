use Rattle.std.proofs.Common.{◌≡◌, Option, Err, List, ℕ, not, refl, ap, subst, sym, ◌∙◌}
use Rattle.ask_client.specs.Asking.{AskEnd}
use Rattle.ask_client.specs.Batches.{BatchOf}
use Rattle.ask_client.specs.Writes.{WritesFront}
use Rattle.ask_client.specs.declared.ask_fault.AskFault.TheVariants.{Output}
use Rattle.ask_client.specs.declared.server_stream.ServerStream.{ServerStream}
use Rattle.ask_client.specs.inner.Progress.{BringsSoFar, TellsMore, ask_state}
use Rattle.ask_client.proofs.MoreTold.{not_err, on_err, tells_none, tells_over}
use Rattle.ask_client.proofs.asker.Asker.try_batch.Goals as goal

pub returns-in_default-clause-tells : goal.returns-in_default-clause-tells
returns-in_default-clause-tells g c =
    let new = c.connect.new in
    let text = g.O.Write.contents c.args.output.now in
    let then = g.D.Dialer.streams new.dialer in
    tells_none g.R.Read.remaining (ask_state (g.D.Dialer.streams c.args.dialer.now) c.args.self.now.stream c.args.self.now.batch text)
    (ask_state then new.self.stream new.self.batch text) c.connect.ensures.batch refl
    (λ client start first told brings.
    subst (λ (o : Option (ServerStream g.row.R.Denot g.row.W.Denot)). BringsSoFar g.R.Read.remaining client start then o first told)
    (c.in_default.is ∙ sym c.connect.ensures.stream) (c.connect.ensures.open client start first told brings))

pub returns-then-is_err-clause-tells : goal.returns-then-is_err-clause-tells
returns-then-is_err-clause-tells g c =
    let new = c.talk-talked.new in
    let old_text = g.O.Write.contents c.args.output.now in
    let text = g.O.Write.contents c.write_and_flush.new.writer in
    let end = ask_state (g.D.Dialer.streams new.dialer) new.self.stream new.self.batch text in
    let wrote = subst (λ (l : List ℕ). WritesFront c.write_and_flush.result l old_text text) c.deref.ensures.value c.write_and_flush.ensures in
    let old = g.D.Dialer.streams c.args.dialer.now in
    let at : AskEnd = Err Output in
    subst (λ (b : BatchOf). TellsMore g.R.Read.remaining at (ask_state old c.args.self.now.stream b old_text) end) c.connect.ensures.batch
    (tells_over g.R.Read.remaining at c.write_and_flush.result old (g.D.Dialer.streams c.connect.new.dialer) (g.D.Dialer.streams new.dialer)
    c.args.self.now.stream
    new.self.stream c.in-Some.stream c.connect.new.self.batch new.self.batch new.self.lines.items old_text text c.in-Some.ensures.open
    c.talk-talked.ensures.tells wrote (on_err c.write_and_flush.result (at ≡ at) refl))

pub returns-clause-tells : goal.returns-clause-tells
returns-clause-tells g c =
    let new = c.talk-talked.new in
    let old_text = g.O.Write.contents c.args.output.now in
    let text = g.O.Write.contents c.write_and_flush.new.writer in
    let end = ask_state (g.D.Dialer.streams new.dialer) new.self.stream new.self.batch text in
    let wrote = subst (λ (l : List ℕ). WritesFront c.write_and_flush.result l old_text text) c.deref.ensures.value c.write_and_flush.ensures in
    let old = g.D.Dialer.streams c.args.dialer.now in
    let at : AskEnd = c.after_talk.result in
    subst (λ (b : BatchOf). TellsMore g.R.Read.remaining at (ask_state old c.args.self.now.stream b old_text) end) c.connect.ensures.batch
    (tells_over g.R.Read.remaining at c.write_and_flush.result old (g.D.Dialer.streams c.connect.new.dialer) (g.D.Dialer.streams new.dialer)
    c.args.self.now.stream
    new.self.stream c.in-Some.stream c.connect.new.self.batch new.self.batch new.self.lines.items old_text text c.in-Some.ensures.open
    c.talk-talked.ensures.tells wrote (not_err c.write_and_flush.result (at ≡ Err Output) (c.is_err.ensures.negation ∙ ap not c.if-is_err.false)))

pub returns-clause-fault : goal.returns-clause-fault
returns-clause-fault g c = c.after_talk.ensures c.talk-talked.new.self.batch
