use Rattle.std.proofs.Common.{◌≡◌, ◌+◌, ◌≤◌, length, vec_capacity}
use Rattle.cown_queue.specs.inner.Chains.{KeepsChains}
use Rattle.cown_queue.proofs.tickets.add_places.Given as goal

abbrev pub invariant-loop-place : goal.invariant-loop-place
invariant-loop-place l = record {
  linked : KeepsChains l.fn.table.items l.fn.free.items l.table.items l.free.items;
  made : length l.table.items ≡ l.place;
  freed : length l.free.items + l.places ≡ length l.fn.free.items + l.place;
  table_room : l.places + l.count ≤ vec_capacity l.table;
  free_room : l.places + l.count ≤ vec_capacity l.free;
}
