use Rattle.std.specs.Io.KnownBytes.{Keeps}
use Rattle.bank_clients.proofs.one_by_one.Guest.read_once.Given as goal

-- nothing was read so far
abbrev pub invariant-loop : goal.invariant-loop
invariant-loop g l = Keeps (g.T.Read.remaining l.fn.self.stream) (g.T.Read.remaining l.self.stream)
