use Rattle.std.proofs.Common.{◌≡◌, ◌≤◌, take}
use Rattle.std.specs.Prelude.{count_by}
use Rattle.cown_board.specs.inner.Fronts.{is_occupied}
use Rattle.cown_board.proofs.fronts.count_occupied.Given as goal

-- the count for the cowns so far
abbrev pub invariant-loop-cown : goal.invariant-loop-cown
invariant-loop-cown l = record {
  counted : l.occupied ≡ count_by (is_occupied l.queues.lists) (take l.cown-index l.cowns);
  few : l.occupied ≤ l.cown-index;
}
