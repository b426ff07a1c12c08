use Rattle.std.proofs.Common.{◌≡◌, ℕ, ◌<◌, ◌≤◌, true, length, drop}
use Rattle.sb_calls.specs.Cowns.{IsRising}
use Rattle.sb_calls.specs.SerialRun.{is_among}
use Rattle.cown_queue.specs.Queues.{list_of}
use Rattle.cown_queue.proofs.ListChanges.{changed}
use Rattle.cown_queue.proofs.queues.pop_each.Given as goal

abbrev pub invariant-loop-cown : goal.invariant-loop-cown
invariant-loop-cown l = record {
  lists : changed (drop 1) (drop l.cown-index l.cowns) l.tickets.lists ≡ changed (drop 1) l.cowns l.fn.tickets.lists;
  rising : IsRising (drop l.cown-index l.cowns);
  held : (cown : ℕ) → is_among cown (drop l.cown-index l.cowns) ≡ true → 0 < length (list_of l.tickets.lists cown);
  free : l.fn.tickets.free ≤ l.tickets.free;
  places : l.tickets.places ≡ l.fn.tickets.places;
}
