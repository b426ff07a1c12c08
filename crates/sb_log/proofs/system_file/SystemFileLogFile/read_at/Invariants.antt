use Rattle.std.proofs.Common.{◌≡◌, ◌≤◌, ◌-◌}
use Rattle.sb_log.specs.LogFiles.{AppendsUpTo}
use Rattle.sb_log.proofs.system_file.SystemFileLogFile.read_at.Given as goal

abbrev pub invariant-loop-done : goal.invariant-loop-done
invariant-loop-done l = record {
  within : l.done ≤ l.most;
  bytes : AppendsUpTo l.done l.fn.out.items l.out.items;
  failed : l.self.failed ≡ l.fn.self.failed;
}

abbrev pub decreases-loop-done : goal.decreases-loop-done
decreases-loop-done l = l.most - l.done
