use Rattle.std.proofs.Common.{◌≡◌, ◌≤◌, Ok, length}
use Rattle.ask_client.specs.inner.Progress.{TellsMore, ask_state}
use Rattle.ask_client.proofs.asker.Asker.ask_some.Given as goal

-- no call was told by now
abbrev pub invariant-loop : goal.invariant-loop
invariant-loop g l = record {
  tells : TellsMore g.R.Read.remaining (Ok tt)
      (ask_state (g.D.Dialer.streams l.fn.dialer) l.fn.self.stream l.fn.self.batch (g.O.Write.contents l.fn.output))
      (ask_state (g.D.Dialer.streams l.dialer) l.self.stream l.self.batch (g.O.Write.contents l.output));
  all : length l.fn.self.batch.calls ≤ length l.self.batch.calls;
  plan : l.self.plan ≡ l.fn.self.plan;
}
