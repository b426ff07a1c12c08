use Rattle.std.proofs.Common.{◌≤◌, ◌-◌}
use Rattle.sb_log.specs.LogFiles.{Stays}
use Rattle.sb_log.proofs.truncation.write_again.Given as goal

abbrev pub invariant-loop-done : goal.invariant-loop-done
invariant-loop-done g l = record {
  within : l.done ≤ l.size;
  file : Stays g.F.LogFile.IsHonest g.F.LogFile.model l.fn.file l.file;
  written : g.F.LogFile.IsHonest l.fn.file → l.done ≤ (g.F.LogFile.model l.file).syncable;
}

abbrev pub decreases-loop-done : goal.decreases-loop-done
decreases-loop-done g l = l.size - l.done
