-- The events that settle a replica, and their result.
use Rattle.std.specs.Prelude.{◌≡◌, ℕ, zero, suc, ◌<◌, false, Option, Some, None, List, [], ◌∷◌, ◌++◌, length, replicate, slice_get, slice_set}
use Rattle.schedule_player.specs.Observers.{idle_at}
use Rattle.schedule_player.specs.ReplicaMoves.{NodeOf, undone_in}
use Rattle.schedule_player.specs.Stage.{IsDone}
use Rattle.schedule_player.specs.World.{WorldOf, world_move}
use Rattle.schedule_text.specs.declared.event.Event.{Event}
use Rattle.schedule_text.specs.declared.event.Event.TheVariants as event
use Rattle.schedule_text.specs.declared.event.NodeEvent.TheVariants as node_event

-- each of the first so many workers, in order, finishes what it has in hand
abbrev pub finish_events : ℕ → ℕ → List Event
finish_events r zero = []
finish_events r (suc k) = finish_events r k ++ event.At r (node_event.Finish (suc k)) ∷ []

-- this many times, the first worker takes the first entry that may run, and finishes it
abbrev pub work_events : ℕ → ℕ → List Event
work_events r zero = []
work_events r (suc n) = work_events r n ++ event.At r (node_event.Take 1 0) ∷ event.At r (node_event.Finish 1) ∷ []

-- the machine after these events, none of which is an ask
abbrev pub after_events : WorldOf → List Event → WorldOf
after_events world [] = world
after_events world (happens ∷ events) = after_events (world_move world happens).0 events

-- a replica's number of workers, and its number of undone entries; 0 if it doesn't exist
abbrev pub workers_if : Option NodeOf → ℕ
workers_if (Some node) = length node.hands
workers_if None = 0

-- a replica's number of workers
abbrev pub workers_at : WorldOf → ℕ → ℕ
workers_at world r = workers_if (slice_get world.nodes r)

abbrev pub undone_if : Option NodeOf → ℕ
undone_if (Some node) = undone_in node
undone_if None = 0

-- the number of entries that a replica accepted and didn't finish
abbrev pub undone_at : WorldOf → ℕ → ℕ
undone_at world r = undone_if (slice_get world.nodes r)

-- the events that empty every hand
abbrev pub emptying_events : WorldOf → ℕ → List Event
emptying_events world r = finish_events r (workers_at world r)

abbrev pub remaining_undone : WorldOf → ℕ → ℕ
remaining_undone world r = undone_at (after_events world (emptying_events world r)) r

-- every hand is emptied; then the first worker does what is left undone, an entry at a time
abbrev pub settle_events : WorldOf → ℕ → List Event
settle_events world r = emptying_events world r ++ work_events r (remaining_undone world r)

-- settling takes no entry too many: before each one the replica isn't idle
abbrev pub IsBusyBefore : WorldOf → ℕ → Type 0
IsBusyBefore world r = (n : ℕ) → n < remaining_undone world r
    → idle_at (after_events world (emptying_events world r ++ work_events r n)) r ≡ false

-- every accepted entry is done, and no worker has anything in hand; the rest stays
abbrev pub settled_node : NodeOf → NodeOf
settled_node node = record node {
  stages = replicate (length node.stages) IsDone;
  hands = replicate (length node.hands) None;
}

abbrev pub settled_world_if : WorldOf → ℕ → Option NodeOf → WorldOf
settled_world_if world r (Some node) = record world { nodes = slice_set world.nodes r (settled_node node) }
settled_world_if world r None = world

-- the world with this replica settled, and nothing else changed
abbrev pub settled_world : WorldOf → ℕ → WorldOf
settled_world world r = settled_world_if world r (slice_get world.nodes r)
