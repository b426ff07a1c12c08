use Rattle.std.proofs.Common.{◌≡◌, ◌≤◌, ◌++◌, ℕ, List, drop, length, subst, sym, ap, ◌∙◌}
use Rattle.std.proofs.lemmas.Result.{err_from_is_err_and}
use Rattle.sb_rows.specs.Text.{lines}
use Rattle.ask_client.specs.inner.Progress.{HasAsked, ask_state}
use Rattle.ask_client.specs.inner.Reading.{HasNoLineEnd}
use Rattle.ask_client.specs.declared.ask_fault.AskFault.TheVariants.{OutOfMemory}
use Rattle.ask_client.proofs.Asked.{stopped_anyhow}
use Rattle.ask_client.proofs.asker.Asker.ask_piece.Goals as goal

pub returns-in_err-extend_from_slice-clause-asked : goal.returns-in_err-extend_from_slice-clause-asked
returns-in_err-extend_from_slice-clause-asked g c start taken first asked =
    let p = err_from_is_err_and c.from_residual.result c.from_residual.ensures.1 in
    let state = ask_state (g.D.Dialer.streams c.args.dialer.now) c.args.self.now.stream c.args.self.now.batch (g.O.Write.contents c.args.output.now) in
    rw (p.1, p.2) (stopped_anyhow g.R.Read.remaining start taken (λ more. lines ((c.args.text.now.items ++ c.args.bytes.now) ++ more)) state OutOfMemory
    (λ first calls told lines. tt) asked)

pub returns-in_err-count-clause-asked : goal.returns-in_err-count-clause-asked
returns-in_err-count-clause-asked g c start taken first asked =
    let p = err_from_is_err_and c.from_residual-in_err-count.result c.from_residual-in_err-count.ensures.1 in
    let state = ask_state (g.D.Dialer.streams c.args.dialer.now) c.args.self.now.stream c.args.self.now.batch (g.O.Write.contents c.args.output.now) in
    let both = c.args.text.now.items ++ c.args.bytes.now in
    let text : c.deref.result.now ≡ both = subst (λ (l : List ℕ). c.deref.result.now ≡ l) c.in_ok-extend_from_slice.ensures.items c.deref.ensures.value in
    rw (p.1, p.2) (c.in_err-count.ensures.asked start taken first
    (subst (λ (l : List ℕ). HasAsked g.R.Read.remaining start taken (λ more. lines (l ++ more)) state) (sym text) asked))

pub returns-clause-asked : goal.returns-clause-asked
returns-clause-asked g c start taken first asked =
    let state = ask_state (g.D.Dialer.streams c.args.dialer.now) c.args.self.now.stream c.args.self.now.batch (g.O.Write.contents c.args.output.now) in
    let new = c.ask_lines.new in
    let end = ask_state (g.D.Dialer.streams new.dialer) new.self.stream new.self.batch (g.O.Write.contents new.output) in
    let both = c.args.text.now.items ++ c.args.bytes.now in
    let text : c.deref.result.now ≡ both = subst (λ (l : List ℕ). c.deref.result.now ≡ l) c.in_ok-extend_from_slice.ensures.items c.deref.ensures.value in
    let left : drop c.in_ok-count.count c.deref.result.now ≡ c.forget_front.new.text.items =
    ap (drop c.in_ok-count.count) c.deref.ensures.value ∙ sym c.forget_front.ensures in
    subst (λ (l : List ℕ). HasAsked g.R.Read.remaining start taken (λ more. lines (l ++ more)) end) left
    (c.in_ok-count.ensures.asked start taken first
    (subst (λ (l : List ℕ). HasAsked g.R.Read.remaining start taken (λ more. lines (l ++ more)) state) (sym text) asked))

pub forget_front-requires : goal.forget_front-requires
forget_front-requires g c =
    subst (λ (l : List ℕ). c.in_ok-count.count ≤ length l) c.deref.ensures.value c.in_ok-count.ensures.rest.0

pub returns-clause-rest : goal.returns-clause-rest
returns-clause-rest g c =
    let left : drop c.in_ok-count.count c.deref.result.now ≡ c.forget_front.new.text.items =
    ap (drop c.in_ok-count.count) c.deref.ensures.value ∙ sym c.forget_front.ensures in
    subst HasNoLineEnd left c.in_ok-count.ensures.rest.1
