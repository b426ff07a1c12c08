use Rattle.std.proofs.Common.{◌≡◌, ◌≤◌, ◌+◌, ◌*◌, length, take}
use Rattle.sb_ask_log.specs.MemoryLog.{bytes_of_asks}
use Rattle.sb_ask_log.proofs.memory_log.size_of_first.Given as goal

abbrev pub invariant-loop-before : goal.invariant-loop-before
invariant-loop-before l = (l.size ≡ length (bytes_of_asks (take l.before l.log.log))) × (l.size ≤ 54 + 106 * l.before)
