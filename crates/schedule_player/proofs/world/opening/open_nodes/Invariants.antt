use Rattle.std.proofs.Common.{◌≡◌, ℕ, ◌≤◌, Some, length, map, replicate}
use Rattle.std.specs.Prelude.{slice_get, vec_capacity}
use Rattle.sb_calls.specs.declared.call.TheConstants.{LOG_CALLS}
use Rattle.sb_rows.specs.Rows.{SameCustomers}
use Rattle.schedule_player.specs.Bank.{BankOf}
use Rattle.schedule_player.specs.inner.NodeInvariant.{IsNodeAt, machine_node}
use Rattle.schedule_player.specs.ReplicaMoves.{opened_node}
use Rattle.schedule_player.specs.declared.node.Node.{Node}
use Rattle.schedule_player.proofs.world.opening.open_nodes.Given as goal

-- this many are open, each under its own number
abbrev pub invariant-loop-id : goal.invariant-loop-id
invariant-loop-id l = record {
  seen : map machine_node l.all.items ≡ replicate l.id (opened_node l.workers);
  consistent : (bank : BankOf) → bank.names ≡ l.directory → bank.opening ≡ l.opening → SameCustomers bank.names bank.opening
      → length bank.calls ≤ LOG_CALLS → (r : ℕ) (node : Node) → slice_get l.all.items r ≡ Some node → IsNodeAt bank r node;
  size : length l.all.items ≡ l.id;
  room : l.nodes ≤ vec_capacity l.all;
}
