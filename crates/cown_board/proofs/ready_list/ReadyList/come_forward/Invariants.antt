use Rattle.std.proofs.Common.{◌≡◌, ◌+◌, ◌<◌, ◌≤◌, ℕ, Bool, true, length, get_or, take}
use Rattle.std.specs.Prelude.{All}
use Rattle.std.specs.VecDeque.{deque_len, deque_capacity}
use Rattle.cown_queue.specs.inner.Occurrences.{occurrences}
use Rattle.cown_board.specs.inner.DuePositions.{AreDue}
use Rattle.cown_board.proofs.ready_list.ReadyList.come_forward.Given as goal

-- the places so far have stepped forward
abbrev pub invariant-loop-position : goal.invariant-loop-position
invariant-loop-position l = record {
  same_length : length l.self.behind.items ≡ length l.fn.self.behind.items;
  behind : (position : ℕ) → get_or l.self.behind.items position 0 + occurrences position (take l.position-index l.fronts)
      ≡ get_or l.fn.self.behind.items position 0;
  due : (waits : ℕ → Bool) (bound : ℕ) → All (λ position. (position < bound) × (waits position ≡ true)) l.fronts
      → AreDue waits l.fn.self.behind.items bound l.fn.self.ready.items → AreDue waits l.self.behind.items bound l.self.ready.items;
  few : deque_len l.self.ready ≤ deque_len l.fn.self.ready + l.position-index;
  room : deque_capacity l.fn.self.ready ≤ deque_capacity l.self.ready;
}
