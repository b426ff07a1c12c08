-- A world of the code, compared with its log.
use Rattle.std.specs.Prelude.{◌≡◌, ℕ, suc, ◌≤◌, Some, List, length, slice_get}
use Rattle.sb_rows.specs.Balances.{Balances}
use Rattle.sb_rows.specs.Rows.{SameCustomers}
use Rattle.sb_calls.specs.declared.reply.Reply.{Reply}
use Rattle.sb_sequencer.specs.Sequencer.{SequencerOf, IsSequencer}
use Rattle.sb_calls.specs.declared.nodes.TheConstants.{REPLICAS}
use Rattle.schedule_player.specs.Bank.{log_reply}
use Rattle.schedule_player.specs.inner.NodeInvariant.{IsNodeAt, machine_node}
use Rattle.schedule_player.specs.inner.OutInHands.{OutIsInHands}
use Rattle.schedule_player.specs.World.{bank_with}
use Rattle.schedule_player.specs.declared.node.Node.{Node}

-- each replica is one of this bank, and its entries that are out are in its workers' hands; each
-- answer that is kept is the log's, and the sequencer knows exactly these replicas
pub record IsWorld (names : List (List ℕ)) (opening : Balances) (sequencer : SequencerOf)
    (nodes : List Node) : Type 0 where
  pub customers : SameCustomers names opening
  pub valid : IsSequencer sequencer
  pub known : length sequencer.recorded ≡ length nodes
  pub few : length nodes ≤ REPLICAS
  pub each : (r : ℕ) (node : Node) → slice_get nodes r ≡ Some node
      → IsNodeAt (bank_with names opening sequencer.log) r node
  pub out_in_hands : (r : ℕ) (node : Node) → slice_get nodes r ≡ Some node → OutIsInHands (machine_node node)
  pub answers : (k : ℕ) (reply : Reply) → slice_get sequencer.answers k ≡ Some (Some reply)
      → log_reply (bank_with names opening sequencer.log) (suc k) ≡ Some reply
