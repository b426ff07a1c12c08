use Rattle.std.proofs.Common.{◌≤◌, ◌*◌, drop}
use Rattle.sb_log.proofs.Counts.{Counted}
use Rattle.sb_log.specs.LogFiles.{Stays}
use Rattle.sb_log.proofs.front.count_rest.Given as goal

abbrev pub invariant-loop : goal.invariant-loop
invariant-loop g l = record {
  file : Stays g.F.LogFile.IsHonest g.F.LogFile.model l.fn.file l.file;
  counter : l.counter ≤ l.size;
  bound : l.size ≤ l.counter * 65536;
  counted : g.F.LogFile.IsHonest l.fn.file → Counted (drop l.at (g.F.LogFile.model l.fn.file).content) l.size l.blank;
}
