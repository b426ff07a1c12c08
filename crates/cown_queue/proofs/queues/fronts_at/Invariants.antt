use Rattle.std.proofs.Common.{◌≡◌, ◌≤◌, length, take}
use Rattle.cown_queue.specs.Queues.{fronts_of}
use Rattle.cown_queue.proofs.queues.fronts_at.Given as goal

abbrev pub invariant-loop-cown : goal.invariant-loop-cown
invariant-loop-cown l = record {
  fronts : l.fronts.items ≡ fronts_of l.tickets.lists (take l.cown-index l.cowns);
  few : length l.fronts.items ≤ l.cown-index;
}
