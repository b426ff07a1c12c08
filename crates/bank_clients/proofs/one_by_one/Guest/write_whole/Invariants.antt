use Rattle.std.proofs.Common.{◌≡◌, ℕ, List, ◌++◌}
use Rattle.std.specs.Io.KnownBytes.{Appends}
use Rattle.bank_clients.proofs.one_by_one.Guest.write_whole.Given as goal

-- what was written, and what is left, are the bytes
abbrev pub invariant-loop : goal.invariant-loop
invariant-loop g l = (written : List ℕ) × (l.bytes ≡ written ++ l.rest)
    × Appends (g.T.Write.contents l.fn.self.stream) (g.T.Write.contents l.self.stream) written
