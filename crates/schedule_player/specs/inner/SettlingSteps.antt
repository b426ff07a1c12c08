-- What holds of a replica while it settles.
use Rattle.std.specs.Prelude.{◌≡◌, ℕ, ◌≤◌, Some, None, length, replicate, slice_get}
use Rattle.sb_calls.specs.declared.call.TheConstants.{LOG_CALLS}
use Rattle.schedule_player.specs.ReplicaMoves.{NodeOf, length_in}
use Rattle.schedule_player.specs.inner.OutInHands.{OutIsInHands}
use Rattle.schedule_player.specs.World.{WorldOf}

-- it holds of a replica, if that replica exists
abbrev pub IsTrueAt : (NodeOf → Type 0) → WorldOf → ℕ → Type 0
IsTrueAt P world r = (node : NodeOf) → slice_get world.nodes r ≡ Some node → P node

-- each entry that is out is in a hand, and the log is within its limit
pub record IsAbleToSettle (node : NodeOf) : Type 0 where
  pub out_in_hands : OutIsInHands node
  pub within : length_in node ≤ LOG_CALLS

-- the replica is able to settle, and every hand is empty
pub record IsAtRest (node : NodeOf) : Type 0 where
  pub able : IsAbleToSettle node
  pub empty : node.hands ≡ replicate (length node.hands) None
