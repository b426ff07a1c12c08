-- the behaviours so far are linked, as if all from the first on waited
use Rattle.std.proofs.Common.{◌≡◌, ◌+◌, ◌-◌, ◌*◌, ◌≤◌, length, take, vec_capacity}
use Rattle.std.specs.VecDeque.{deque_len, deque_capacity}
use Rattle.cown_queue.specs.Queues.{queued_in}
use Rattle.cown_board.proofs.LinkInvariant.{as_waiting}
use Rattle.cown_board.specs.inner.BoardInvariant.{AreQueues, AreCounts}
use Rattle.cown_board.proofs.links.Links.link.Given as goal

abbrev pub invariant-loop-position : goal.invariant-loop-position
invariant-loop-position g l =
    let states = as_waiting l.states.items l.first (l.position - l.first) in
    let cowns = length l.fn.self.queues.lists in
    record {
      queues : AreQueues g.B.Behaviour.touches g.B.Behaviour.effect (take l.position l.log.items) states l.self.queues.lists cowns;
      counts : AreCounts g.B.Behaviour.touches g.B.Behaviour.effect (take l.position l.log.items) states l.self.queues.lists
          l.self.ready.behind.items l.self.ready.ready.items;
      places : queued_in l.self.queues.lists + (length l.log.items - l.position) * 3 ≤ l.self.queues.places;
      counts_room : length l.log.items ≤ vec_capacity l.self.ready.behind;
      few : deque_len l.self.ready.ready + l.first ≤ l.position;
      room : deque_capacity l.self.ready.ready ≡ deque_capacity l.fn.self.ready.ready;
    }
