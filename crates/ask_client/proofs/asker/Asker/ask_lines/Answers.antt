use Rattle.std.proofs.Common.{◌+◌, ◌<◌, ◌++◌, ℕ, Some, None, List, drop, length, refl, ap, subst, sym, ◌∙◌, arith, length-drop}
use Rattle.std.proofs.lemmas.List.{drop-drop}
use Rattle.std.proofs.lemmas.Result.{err_from_is_err_and}
use Rattle.memchr.specs.Find.{IsFirstByte}
use Rattle.sb_rows.specs.Text.{is_line_feed, lines}
use Rattle.sb_rows.proofs.SplitAtFirstByte.{to_end}
use Rattle.ask_client.specs.declared.plan.AskPlan.{AskPlan}
use Rattle.ask_client.specs.inner.Progress.{ask_state}
use Rattle.ask_client.proofs.Asked.{batch_asked, batch_stopped, behind_so, line_behind}
use Rattle.ask_client.proofs.LineEnds.{no_end}
use Rattle.ask_client.proofs.asker.Asker.ask_lines.Goals as goal

pub loop-end-init : goal.loop-end-init
loop-end-init g c = record { within = omega arith; asked = λ start taken first asked. asked; plan = refl }

pub loop-end-preserved : goal.loop-end-preserved
loop-end-preserved g c =
    let rem = g.R.Read.remaining in
    let loop = c.loop-end in
    let kept = loop.invariant in
    let text = c.args.text.now in
    let hay = drop loop.count text in
    let end = c.in-Some.end in
    let found : IsFirstByte is_line_feed hay (Some end) =
    subst (λ (l : List ℕ). IsFirstByte is_line_feed l (Some end)) (to_end text loop.count) c.in-Some.ensures in
    let within : end < length hay = found.0.high in
    let mid = ask_state (g.D.Dialer.streams loop.dialer) loop.self.stream loop.self.batch (g.O.Write.contents loop.output) in
    let new = c.ask_line.new in
    let then = ask_state (g.D.Dialer.streams new.dialer) new.self.stream new.self.batch (g.O.Write.contents new.output) in
    let behind : List ℕ → List (List ℕ) = λ more. lines (drop (end + 1) hay ++ more) in
    record {
      within = omega (arith, within, length-drop loop.count text, kept.within);
      asked = λ start taken first asked.
          behind_so rem start taken taken behind (λ more. lines (drop (loop.count + (end + 1)) text ++ more)) then
          (λ more. (more, refl, ap (λ (l : List ℕ). lines (l ++ more)) (drop-drop (end + 1) loop.count text)))
          (c.in_ok-ask_line.ensures.asked behind start taken (first ∙ sym (ap (λ (p : AskPlan). p.first) kept.plan))
          (line_behind rem start taken text loop.count end mid c.in-Some.ensures (kept.asked start taken first asked)));
      plan = c.in_ok-ask_line.ensures.plan ∙ kept.plan;
    }

pub returns-in_err-ask_line-clause-asked : goal.returns-in_err-ask_line-clause-asked
returns-in_err-ask_line-clause-asked g c start taken first asked =
    let p = err_from_is_err_and c.from_residual.result c.from_residual.ensures.1 in
    let rem = g.R.Read.remaining in
    let loop = c.loop-end in
    let kept = loop.invariant in
    let text = c.args.text.now in
    let end = c.in-Some.end in
    let mid = ask_state (g.D.Dialer.streams loop.dialer) loop.self.stream loop.self.batch (g.O.Write.contents loop.output) in
    rw (p.1, p.2) (c.in_err-ask_line.ensures.asked (λ more. lines (drop (end + 1) (drop loop.count text) ++ more)) start taken
    (first ∙ sym (ap (λ (p : AskPlan). p.first) kept.plan))
    (line_behind rem start taken text loop.count end mid c.in-Some.ensures (kept.asked start taken first asked)))

pub returns-in_err-ask_batch-clause-asked : goal.returns-in_err-ask_batch-clause-asked
returns-in_err-ask_batch-clause-asked g c start taken first asked =
    let p = err_from_is_err_and c.from_residual-in_err-ask_batch.result c.from_residual-in_err-ask_batch.ensures.1 in
    let loop = c.loop-end in
    let mid = ask_state (g.D.Dialer.streams loop.dialer) loop.self.stream loop.self.batch (g.O.Write.contents loop.output) in
    let new = c.ask_batch.new in
    let ends = c.in_err-ask_batch in
    rw (p.1, p.2) (batch_stopped g.R.Read.remaining start taken (λ more. lines (drop loop.count c.args.text.now ++ more)) mid
    (ask_state (g.D.Dialer.streams new.dialer) new.self.stream new.self.batch (g.O.Write.contents new.output)) ends.field-0.0 ends.ensures.tells
    ends.ensures.fault (loop.invariant.asked start taken first asked))

pub returns-clause-asked : goal.returns-clause-asked
returns-clause-asked g c start taken first asked =
    let loop = c.loop-end in
    let mid = ask_state (g.D.Dialer.streams loop.dialer) loop.self.stream loop.self.batch (g.O.Write.contents loop.output) in
    let new = c.ask_batch.new in
    batch_asked g.R.Read.remaining start taken (λ more. lines (drop loop.count c.args.text.now ++ more)) mid
    (ask_state (g.D.Dialer.streams new.dialer) new.self.stream new.self.batch (g.O.Write.contents new.output)) c.in_ok-ask_batch.ensures.tells
    (loop.invariant.asked start taken first asked)

pub returns-clause-rest : goal.returns-clause-rest
returns-clause-rest g c =
    let hay = drop c.loop-end.count c.args.text.now in (
      c.loop-end.invariant.within,
      no_end hay (subst (λ (l : List ℕ). IsFirstByte is_line_feed l None) (to_end c.args.text.now c.loop-end.count)
          c.in_default.ensures),
    )
