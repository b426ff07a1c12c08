use Rattle.std.proofs.Common.{◌≡◌, ◌+◌, [], ◌∷◌, ◌++◌, drop, length}
use Rattle.cown_queue.proofs.ListChanges.{changed}
use Rattle.cown_queue.proofs.queues.push_each.Given as goal

abbrev pub invariant-loop-cown : goal.invariant-loop-cown
invariant-loop-cown l = record {
  lists : changed (λ list. list ++ l.number ∷ []) (drop l.cown-index l.cowns) l.tickets.lists
      ≡ changed (λ list. list ++ l.number ∷ []) l.cowns l.fn.tickets.lists;
  cown_count : length l.tickets.lists ≡ length l.fn.tickets.lists;
  free : l.tickets.free + l.cown-index ≡ l.fn.tickets.free;
  places : l.tickets.places ≡ l.fn.tickets.places;
}
