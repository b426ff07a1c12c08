-- The links between unfinished behaviours, after each step and before there are any.
use Rattle.std.specs.Prelude.{◌≡◌, ℕ, ◌+◌, ◌-◌, ◌*◌, ◌<◌, ◌≤◌, ◌==◌, Bool, true, false, if◌then◌else◌, List, [], ◌∷◌, ◌++◌, All, length, get_or, replicate, count_by, vec_capacity}
use Rattle.std.specs.VecDeque.{deque_capacity}
use Rattle.cown_queue.specs.Queues.{Appends}
use Rattle.cown_queue.specs.inner.Occurrences.{occurrences}
use Rattle.cown_board.specs.inner.DuePositions.{AreDue}
use Rattle.cown_board.specs.inner.Fronts.{is_occupied}
use Rattle.cown_board.specs.inner.StateTests.{waiting_at}
use Rattle.cown_board.specs.State.{unfinished_at}
use Rattle.cown_board.specs.declared.links.Links.{Links}
use Rattle.cown_board.specs.declared.ready_list.ReadyList.{ReadyList}
use Rattle.cown_board.specs.declared.state.State.{State}

-- the queues, the counts and the list of ready positions stay the same
pub record LeavesLinks (old new : Links) : Type 0 where
  pub lists : new.queues.lists ≡ old.queues.lists
  pub behind : new.ready.behind.items ≡ old.ready.behind.items
  pub ready : new.ready.ready.items ≡ old.ready.ready.items

-- a position is appended to the queues of these cowns; it gets the count of those that were
-- occupied already, and is ready if there are none
pub record AddsToLinks (position : ℕ) (cowns : List ℕ) (old new : Links) : Type 0 where
  pub lists : Appends position cowns old.queues.lists new.queues.lists
  pub behind : new.ready.behind.items ≡ old.ready.behind.items ++ count_by (is_occupied old.queues.lists) cowns ∷ []
  pub ready : new.ready.ready.items
      ≡ (if count_by (is_occupied old.queues.lists) cowns == 0 then old.ready.ready.items ++ position ∷ []
      else old.ready.ready.items)

-- there is at least as much room, and the links stay linked or not
pub record KeepsRoom (old new : Links) : Type 0 where
  pub linked : new.linked ≡ old.linked
  pub counts : vec_capacity old.ready.behind ≤ vec_capacity new.ready.behind
  pub ready : deque_capacity old.ready.ready ≤ deque_capacity new.ready.ready
  pub places : old.queues.places ≤ new.queues.places

-- a position is added at these cowns, or if nothing is linked, there is room to link it later
pub record TakesIn (position unfinished : ℕ) (cowns : List ℕ) (old new : Links) : Type 0 where
  pub counts : position + 1 ≤ vec_capacity new.ready.behind
  pub ready : unfinished + 3 ≤ deque_capacity new.ready.ready
  pub linked : old.linked ≡ true → AddsToLinks position cowns old new
  pub unlinked : old.linked ≡ false → LeavesLinks old new × (unfinished * 3 ≤ new.queues.places)

-- each of these positions is in front at one more cown for each time that it occurs; a position in
-- front at all its cowns is then ready
pub record ComesForward (fronts : List ℕ) (old new : ReadyList) : Type 0 where
  pub same_length : length new.behind.items ≡ length old.behind.items
  pub behind : (position : ℕ)
      → get_or new.behind.items position 0 + occurrences position fronts ≡ get_or old.behind.items position 0
  pub due : (waits : ℕ → Bool) (bound : ℕ) → All (λ position. (position < bound) × (waits position ≡ true)) fronts
      → AreDue waits old.behind.items bound old.ready.items → AreDue waits new.behind.items bound new.ready.items

-- nothing is linked: everything before the first position is finished, that one itself isn't, and
-- everything after it waits; there is room to link everything from there on
pub record IsUnlinked (log_length : ℕ) (states : List State) (first cowns : ℕ) (links : Links) : Type 0 where
  pub before : (k : ℕ) → k < first → unfinished_at states k ≡ false
  pub here : first < log_length → unfinished_at states first ≡ true
  pub after : (k : ℕ) → first < k → k < log_length → waiting_at states k ≡ true
  pub lists : links.queues.lists ≡ replicate cowns []
  pub behind : links.ready.behind.items ≡ []
  pub ready : links.ready.ready.items ≡ []
  pub places : (log_length - first) * 3 ≤ links.queues.places
  pub counts : log_length ≤ vec_capacity links.ready.behind
