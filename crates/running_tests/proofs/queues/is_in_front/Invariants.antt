use Rattle.std.proofs.Common.{take}
use Rattle.cown_queue.specs.Queues.{IsInFront}
use Rattle.running_tests.proofs.queues.is_in_front.Given as goal

abbrev pub invariant-loop-cown : goal.invariant-loop-cown
invariant-loop-cown l = IsInFront l.number (take l.cown-index l.cowns) l.queues.lists
