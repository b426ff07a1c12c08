-- What can be seen of a world.
use Rattle.std.specs.Prelude.{ℕ, ◌==◌, Bool, false, Option, option_and_then, option_map, Some, None, slice_get}
use Rattle.sb_calls.specs.declared.reply.Reply.{Reply}
use Rattle.schedule_player.specs.OneBased.{nth_item}
use Rattle.schedule_player.specs.ReplicaMoves.{NodeOf, length_in, undone_in, reply_in_node}
use Rattle.schedule_player.specs.World.{WorldOf, bank_of}

-- the length of a replica's log, if that replica exists
abbrev pub length_at : WorldOf → ℕ → Option ℕ
length_at world r = option_map length_in (slice_get world.nodes r)

-- whether the replica exists and has nothing unfinished
abbrev pub idle_if : Option NodeOf → Bool
idle_if (Some node) = undone_in node == 0
idle_if None = false

-- whether a replica exists and has finished all that it accepted
abbrev pub idle_at : WorldOf → ℕ → Bool
idle_at world r = idle_if (slice_get world.nodes r)

-- the reply that a replica holds to a number, if it has one
abbrev pub reply_at_replica : WorldOf → ℕ → ℕ → Option Reply
reply_at_replica world r number =
    option_and_then (λ node. reply_in_node (bank_of world) node number) (slice_get world.nodes r)

-- the length of the state at a position among all that were ever sent to a replica
abbrev pub state_at : WorldOf → ℕ → ℕ → Option ℕ
state_at world r position = option_and_then (λ node. nth_item node.states position) (slice_get world.nodes r)
