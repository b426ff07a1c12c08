use Rattle.std.specs.Io.KnownBytes.{Keeps}
use Rattle.ask_client.proofs.asker.hear_end.Given as goal

-- nothing came so far
abbrev pub invariant-loop : goal.invariant-loop
invariant-loop g l = Keeps (g.R.Read.remaining l.fn.reader) (g.R.Read.remaining l.reader)
