-- Who has the entries that are out.
use Rattle.std.specs.Prelude.{◌≡◌, ℕ, ◌≤◌, Option, Some, List, length}
use Rattle.sb_calls.specs.declared.nodes.TheConstants.{WORKERS}
use Rattle.schedule_player.specs.OneBased.{nth_item}
use Rattle.schedule_player.specs.ReplicaMoves.{NodeOf}
use Rattle.schedule_player.specs.Stage.{Stage, IsOut}

-- given the stage of each entry and what each worker has in hand: there are from 1 worker up to as
-- many as a replica may have, and each entry that is out is in a worker's hand
pub record AreInHands (stages : List Stage) (hands : List (Option ℕ)) : Type 0 where
  pub some : 1 ≤ length hands
  pub few : length hands ≤ WORKERS
  pub out : (number : ℕ) → nth_item stages number ≡ Some IsOut
      → (worker : ℕ) × (nth_item hands worker ≡ Some (Some number))

abbrev pub OutIsInHands : NodeOf → Type 0
OutIsInHands node = AreInHands node.stages node.hands
