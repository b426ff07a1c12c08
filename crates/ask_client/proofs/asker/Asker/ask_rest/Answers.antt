use Rattle.std.proofs.Common.{◌++◌, ℕ, List, [], length, ap, subst, sym, ◌∙◌}
use Rattle.std.specs.Prelude.{◌≢◌}
use Rattle.std.proofs.lemmas.Bool.{eqb-false}
use Rattle.sb_rows.specs.Text.{lines}
use Rattle.ask_client.specs.inner.Progress.{HasAsked, ask_state}
use Rattle.ask_client.proofs.Asked.{batch_over}
use Rattle.ask_client.proofs.LineEnds.{one_last}
use Rattle.ask_client.proofs.asker.Asker.ask_rest.Goals as goal

pub returns-clause-asked : goal.returns-clause-asked
returns-clause-asked g c start taken first asked =
    let rem = g.R.Read.remaining in
    let text = c.args.text.now in
    let some : text ≢ [] = λ none. eqb-false (length text) 0 (sym c.is_empty.ensures ∙ c.if-is_empty.false) (ap length none) in
    let state = ask_state (g.D.Dialer.streams c.args.dialer.now) c.args.self.now.stream c.args.self.now.batch (g.O.Write.contents c.args.output.now) in
    let mid = c.ask_line.new in
    let new = c.ask_batch.new in
    batch_over rem start taken (λ more. lines more)
    (ask_state (g.D.Dialer.streams mid.dialer) mid.self.stream mid.self.batch (g.O.Write.contents mid.output))
    (ask_state (g.D.Dialer.streams new.dialer) new.self.stream new.self.batch (g.O.Write.contents new.output))
    c.ask_batch.result c.ask_batch.ensures.tells c.ask_batch.ensures.fault
    (c.in_ok-ask_line.ensures.asked (λ more. lines more) start taken first
    (subst (λ (l : List (List ℕ)). HasAsked rem start taken (λ more. l ++ lines more) state) (one_last text some) asked))
