use Rattle.std.proofs.Common.{◌≡◌, ◌++◌, List, [], ℕ, Ok}
use Rattle.std.specs.Io.KnownBytes.{Consumes}
use Rattle.sb_rows.specs.Text.{lines}
use Rattle.ask_client.specs.inner.Progress.{AskStart, HasAsked, HasTold, ask_state}
use Rattle.ask_client.specs.inner.Reading.{HasNoLineEnd}
use Rattle.ask_client.proofs.asker.Asker.ask_input.Given as goal

-- the whole lines so far are asked and told
abbrev pub invariant-loop : goal.invariant-loop
invariant-loop g l = record {
  asked : (start : AskStart g.row.R.Denot g.row.W.Denot) → start.first ≡ l.fn.self.plan.first
      → HasTold g.R.Read.remaining start (Ok tt) []
      (ask_state (g.D.Dialer.streams l.fn.dialer) l.fn.self.stream l.fn.self.batch (g.O.Write.contents l.fn.output))
      → (taken : List ℕ) × Consumes (g.I.Read.remaining l.fn.input) (g.I.Read.remaining l.input) taken
      × HasAsked g.R.Read.remaining start taken (λ more. lines (l.text.items ++ more))
      (ask_state (g.D.Dialer.streams l.dialer) l.self.stream l.self.batch (g.O.Write.contents l.output));
  rest : HasNoLineEnd l.text.items;
  none : l.self.batch.calls ≡ [];
  plan : l.self.plan ≡ l.fn.self.plan;
}
