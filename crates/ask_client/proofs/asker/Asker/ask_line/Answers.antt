use Rattle.std.proofs.Common.{◌∷◌, refl, subst, sym}
use Rattle.std.proofs.lemmas.Result.{err_from_is_err_and}
use Rattle.ask_client.specs.Batches.{BatchOf}
use Rattle.ask_client.specs.inner.Progress.{IsLineFault, ask_state}
use Rattle.ask_client.proofs.Asked.{batch_over, batch_stopped, line_pushed, line_stopped, state_so}
use Rattle.ask_client.proofs.asker.Asker.ask_line.Goals as goal

pub returns-in-Ok-clause-asked : goal.returns-in-Ok-clause-asked
returns-in-Ok-clause-asked g c behind start taken first asked =
    let rem = g.R.Read.remaining in
    let old = c.args.self.now in
    let pushed = c.push_line.new.self in
    let full = c.ask_full.new in
    let streams = g.D.Dialer.streams c.args.dialer.now in
    let text = g.O.Write.contents c.args.output.now in
    let (call, spells, is) = c.in-Ok.ensures.pushed in
    batch_over rem start taken behind (ask_state streams pushed.stream pushed.batch text)
    (ask_state (g.D.Dialer.streams full.dialer) full.self.stream full.self.batch (g.O.Write.contents full.output))
    c.ask_full.result c.ask_full.ensures.tells c.ask_full.ensures.fault
    (state_so rem start taken behind streams old.stream pushed.stream pushed.batch pushed.batch text c.push_line.ensures.stream refl
    (line_pushed rem start taken c.args.line.now behind streams old.stream old.batch pushed.batch text call spells is asked))

pub returns-in_ok-ask_batch-in-Err-clause-asked : goal.returns-in_ok-ask_batch-in-Err-clause-asked
returns-in_ok-ask_batch-in-Err-clause-asked g c behind start taken first asked =
    let rem = g.R.Read.remaining in
    let old = c.args.self.now in
    let pushed = c.push_line.new.self in
    let new = c.ask_batch.new in
    let line = c.args.line.now in
    let streams = g.D.Dialer.streams c.args.dialer.now in
    let text = g.O.Write.contents c.args.output.now in
    let fault = c.in-Err.fault in
    let why = subst (λ (b : BatchOf). IsLineFault old.plan.first b line fault) (sym c.in-Err.ensures.refused) c.in-Err.ensures.fault in
    line_stopped rem start taken line behind (ask_state streams pushed.stream pushed.batch text)
    (ask_state (g.D.Dialer.streams new.dialer) new.self.stream new.self.batch (g.O.Write.contents new.output)) old.plan.first fault first why
    c.in_ok-ask_batch-in-Err.ensures.tells c.in_ok-ask_batch-in-Err.ensures.all
    (state_so rem start taken (λ more. line ∷ behind more) streams old.stream pushed.stream old.batch pushed.batch text c.push_line.ensures.stream
    c.in-Err.ensures.refused asked)

pub returns-in_err-ask_batch-in-Err-clause-asked : goal.returns-in_err-ask_batch-in-Err-clause-asked
returns-in_err-ask_batch-in-Err-clause-asked g c behind start taken first asked =
    let p = err_from_is_err_and c.from_residual.result c.from_residual.ensures.1 in
    let rem = g.R.Read.remaining in
    let old = c.args.self.now in
    let pushed = c.push_line.new.self in
    let new = c.ask_batch.new in
    let line = c.args.line.now in
    let streams = g.D.Dialer.streams c.args.dialer.now in
    let text = g.O.Write.contents c.args.output.now in
    let ends = c.in_err-ask_batch-in-Err in
    rw (p.1, p.2) (batch_stopped rem start taken (λ more. line ∷ behind more) (ask_state streams pushed.stream pushed.batch text)
    (ask_state (g.D.Dialer.streams new.dialer) new.self.stream new.self.batch (g.O.Write.contents new.output)) ends.field-0.0
    ends.ensures.tells ends.ensures.fault
    (state_so rem start taken (λ more. line ∷ behind more) streams old.stream pushed.stream old.batch pushed.batch text c.push_line.ensures.stream
    c.in-Err.ensures.refused asked))
