use Rattle.sb_checkpoint.proofs.PieceComparison.{GoesOn}
use Rattle.sb_checkpoint.proofs.folder_file.reads_exactly.Given as goal

-- what was read so far was at the front of both
abbrev pub invariant-loop : goal.invariant-loop
invariant-loop g l = GoesOn (g.R.Read.remaining l.fn.reader) (g.R.Read.remaining l.reader) l.fn.bytes l.rest
