use Rattle.std.proofs.Common.{take}
use Rattle.sb_calls.specs.Cowns.{AreBelow, IsRising}
use Rattle.running_tests.proofs.queues.may_declare.Given as goal

abbrev pub invariant-loop-cown : goal.invariant-loop-cown
invariant-loop-cown l = record {
  below : AreBelow l.bound (take l.cown-index l.cowns);
  rising : IsRising (take l.cown-index l.cowns);
  earlier : AreBelow l.least (take l.cown-index l.cowns);
}
