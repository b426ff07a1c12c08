use Rattle.std.specs.Io.KnownBytes.{Consumes}
use Rattle.sb_text.proofs.input.read_with_room.Given as goal

-- what was read so far was at the front of the input
abbrev pub invariant-loop : goal.invariant-loop
invariant-loop g l = Consumes (g.R.Read.remaining l.fn.reader) (g.R.Read.remaining l.reader) l.input.items
