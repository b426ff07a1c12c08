use Rattle.std.proofs.Common.{◌≤◌, ◌-◌, drop, length}
use Rattle.std.specs.Prelude.{take}
use Rattle.std.specs.Io.KnownBytes.{Appends}
use Rattle.sb_log.specs.LogFiles.{Stays}
use Rattle.bank_program.proofs.log_cut.move_rest.Given as goal

-- what stood between the two places was written
abbrev pub invariant-loop : goal.invariant-loop
invariant-loop g l = Stays g.F.LogFile.IsHonest g.F.LogFile.model l.fn.file l.file × (l.fn.from ≤ l.at)
    × (g.F.LogFile.IsHonest l.fn.file → ((l.at - l.fn.from) ≤ length (drop l.fn.from (g.F.LogFile.model l.fn.file).content))
    × Appends (g.R.Write.contents l.fn.rest) (g.R.Write.contents l.rest)
    (take (l.at - l.fn.from) (drop l.fn.from (g.F.LogFile.model l.fn.file).content)))
