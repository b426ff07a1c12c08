use Rattle.std.proofs.Common.{◌++◌, ℕ, List, [], take, refl, ap, subst, sym, ◌∙◌, rules}
use Rattle.std.specs.Io.KnownBytes.{IsAtEnd}
use Rattle.std.proofs.KnownBytes.{Consumes-kept, Consumes-nil, Consumes-trans}
use Rattle.std.proofs.lemmas.Result.{err_from_is_err_and}
use Rattle.sb_rows.specs.Text.{lines}
use Rattle.ask_client.specs.inner.Progress.{AskStep, HasAsked, ask_state}
use Rattle.ask_client.specs.inner.Reading.{HasNoLineEnd, last_lines, missing_end}
use Rattle.ask_client.specs.declared.plan.AskPlan.{AskPlan}
use Rattle.ask_client.specs.declared.ask_fault.AskFault.TheVariants.{Input}
use Rattle.ask_client.proofs.Asked.{fed, last_behind, nothing_asked, reads_none, run_over, run_stopped, same_lines, stopped_anyhow}
use Rattle.ask_client.proofs.asker.Asker.ask_input.Goals as goal
use Rattle.ask_client.proofs.asker.Asker.ask_input.Goals.{in-Ok+in_ok-ask_piece-in-Ok, in-Err+else-ne}

pub loop-init : goal.loop-init
loop-init g c =
    let rem = g.R.Read.remaining in
    let state = ask_state (g.D.Dialer.streams c.args.dialer.now) c.args.self.now.stream c.args.self.now.batch (g.O.Write.contents c.args.output.now) in
    record {
      asked = λ start first has. (
        [],
        Consumes-nil (g.I.Read.remaining c.args.input.now),
        subst (λ (l : List ℕ). HasAsked rem start [] (λ more. lines (l ++ more)) state) (sym c.new-text.ensures.items)
            (nothing_asked rem start state c.requires has),
      );
      rest = subst HasNoLineEnd (sym c.new-text.ensures.items) refl;
      none = c.requires;
      plan = refl;
    }

pub returns-in-Ok-eq0-clause-run : goal.returns-in-Ok-eq0-clause-run
returns-in-Ok-eq0-clause-run g c start first has =
    let rem = g.R.Read.remaining in
    let kept = c.loop.invariant in
    let text = c.loop.text.items in
    let mid = ask_state (g.D.Dialer.streams c.loop.dialer) c.loop.self.stream c.loop.self.batch (g.O.Write.contents c.loop.output) in
    let new = c.ask_rest.new in
    let end = ask_state (g.D.Dialer.streams new.dialer) new.self.stream new.self.batch (g.O.Write.contents new.output) in
    let (taken, reads, asked) = kept.asked start first has in
    let left = g.I.Read.remaining c.read.new.self in
    let at_end : IsAtEnd left = search rules in
    let step : AskStep rem c.loop.self.plan.first c.ask_rest.result (λ more. last_lines text ++ lines more) mid (λ more. lines more) end =
    subst (λ (l : List ℕ). AskStep rem c.loop.self.plan.first c.ask_rest.result (λ more. last_lines l ++ lines more) mid (λ more. lines more) end)
    c.deref.ensures.value c.ask_rest.ensures.asked in
    run_over rem start taken (taken ++ missing_end text) (g.I.Read.remaining c.args.input.now) left c.ask_rest.result end
    (reads_none (g.I.Read.remaining c.args.input.now) (g.I.Read.remaining c.loop.input) left taken c.read.new.buf c.in-Ok-eq0.field-0 reads
    c.in-Ok-eq0.ensures.bytes.0 c.in-Ok-eq0.field-0-test) at_end
    (same_lines rem start taken text mid kept.rest asked) c.ask_rest.ensures.all
    (step start (taken ++ missing_end text) (first ∙ sym (ap (λ (p : AskPlan). p.first) kept.plan)) (last_behind rem start taken text mid kept.rest asked))

pub loop-preserved : goal.loop-preserved
loop-preserved g c =
    let rem = g.R.Read.remaining in
    let loop = c.loop in
    let kept = loop.invariant in
    let text = loop.text.items in
    let mid = ask_state (g.D.Dialer.streams loop.dialer) loop.self.stream loop.self.batch (g.O.Write.contents loop.output) in
    elim c.match-read.branch [
      | in-Ok+in_ok-ask_piece-in-Ok w ↦
          let piece = take w.in-Ok.count c.read.new.buf in
          let step = w.in_ok-ask_piece-in-Ok.ensures in
          rw (w.self-is, w.text-is, w.dialer-is, w.output-is) (record {
            asked = λ start first has.
                let (taken, reads, asked) = kept.asked start first has in (
                  taken ++ piece,
                  Consumes-trans _ _ _ taken piece reads w.in-Ok.ensures.bytes.0,
                  step.asked start (taken ++ piece) (first ∙ sym (ap (λ (p : AskPlan). p.first) kept.plan)) (fed rem start taken text piece mid asked),
                );
            rest = step.rest;
            none = step.all;
            plan = step.plan ∙ kept.plan;
          })
      | in-Err+else-ne w ↦ rw (w.self-is, w.text-is, w.dialer-is, w.output-is) (record {
        asked = λ start first has.
            let (taken, reads, asked) = kept.asked start first has in
            (taken, Consumes-kept _ _ _ taken reads w.in-Err.ensures.bytes, asked);
        rest = kept.rest;
        none = kept.none;
        plan = kept.plan;
      })
    ]

pub returns-in_err-ask_piece-in-Ok-clause-run : goal.returns-in_err-ask_piece-in-Ok-clause-run
returns-in_err-ask_piece-in-Ok-clause-run g c start first has =
    let p = err_from_is_err_and c.from_residual.result c.from_residual.ensures.1 in
    let rem = g.R.Read.remaining in
    let loop = c.loop in
    let kept = loop.invariant in
    let mid = ask_state (g.D.Dialer.streams loop.dialer) loop.self.stream loop.self.batch (g.O.Write.contents loop.output) in
    let new = c.ask_piece.new in
    let (taken, reads, asked) = kept.asked start first has in
    let piece = take c.in-Ok.count c.read.new.buf in
    rw (p.1, p.2) (run_stopped rem start (taken ++ piece) (g.I.Read.remaining c.args.input.now) (g.I.Read.remaining c.read.new.self)
    c.in_err-ask_piece-in-Ok.field-0.0
    (ask_state (g.D.Dialer.streams new.dialer) new.self.stream new.self.batch (g.O.Write.contents new.output))
    (Consumes-trans _ _ _ taken piece reads c.in-Ok.ensures.bytes.0)
    (c.in_err-ask_piece-in-Ok.ensures.asked start (taken ++ piece) (first ∙ sym (ap (λ (p : AskPlan). p.first) kept.plan))
    (fed rem start taken loop.text.items piece mid asked)))

pub returns-then-ne-clause-run : goal.returns-then-ne-clause-run
returns-then-ne-clause-run g c start first has =
    let rem = g.R.Read.remaining in
    let loop = c.loop in
    let mid = ask_state (g.D.Dialer.streams loop.dialer) loop.self.stream loop.self.batch (g.O.Write.contents loop.output) in
    let (taken, reads, asked) = loop.invariant.asked start first has in
    run_stopped rem start taken (g.I.Read.remaining c.args.input.now) (g.I.Read.remaining c.read.new.self) Input mid
    (Consumes-kept _ _ _ taken reads c.in-Err.ensures.bytes)
    (stopped_anyhow rem start taken (λ more. lines (loop.text.items ++ more)) mid Input (λ first calls told lines. tt) asked)

pub returns-clause-run : goal.returns-clause-run
returns-clause-run g c start first has =
    let rem = g.R.Read.remaining in
    let loop = c.loop in
    let mid = ask_state (g.D.Dialer.streams loop.dialer) loop.self.stream loop.self.batch (g.O.Write.contents loop.output) in
    let (taken, reads, asked) = loop.invariant.asked start first has in
    run_stopped rem start taken (g.I.Read.remaining c.args.input.now) (g.I.Read.remaining loop.input) Input mid reads
    (stopped_anyhow rem start taken (λ more. lines (loop.text.items ++ more)) mid Input (λ first calls told lines. tt) asked)
