use Rattle.std.proofs.Common.{◌≡◌, ◌≤◌, ◌-◌, ◌++◌, List, ℕ, drop, length}
use Rattle.sb_rows.specs.Text.{lines}
use Rattle.ask_client.specs.inner.Progress.{AskStart, HasAsked, ask_state}
use Rattle.ask_client.proofs.asker.Asker.ask_lines.Given as goal

-- the lines of this many bytes are asked
abbrev pub invariant-loop-end : goal.invariant-loop-end
invariant-loop-end g l = record {
  within : l.count ≤ length l.text;
  asked : (start : AskStart g.row.R.Denot g.row.W.Denot) (taken : List ℕ) → start.first ≡ l.fn.self.plan.first
      → HasAsked g.R.Read.remaining start taken (λ more. lines (l.text ++ more))
      (ask_state (g.D.Dialer.streams l.fn.dialer) l.fn.self.stream l.fn.self.batch (g.O.Write.contents l.fn.output))
      → HasAsked g.R.Read.remaining start taken (λ more. lines (drop l.count l.text ++ more))
      (ask_state (g.D.Dialer.streams l.dialer) l.self.stream l.self.batch (g.O.Write.contents l.output));
  plan : l.self.plan ≡ l.fn.self.plan;
}

abbrev pub decreases-loop-end : goal.decreases-loop-end
decreases-loop-end g l = length l.text - l.count
