use Rattle.std.proofs.Common.{◌≤◌}
use Rattle.bank_server.proofs.input.asking.reserve_new.Given as goal

abbrev pub invariant-loop-asked : goal.invariant-loop-asked
invariant-loop-asked g l = record {
  count : l.new ≤ l.asked-index;
}
