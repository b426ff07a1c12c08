use Rattle.std.proofs.Common.{◌≡◌, ◌≤◌, ◌-◌, length, max}
use Rattle.std.specs.List.{All}
use Rattle.bank_server.specs.Followers.{IsAtOpening}
use Rattle.bank_server.proofs.followers.ready_followers.ReadyFollowers.open.Given as goal

-- the followers so far are at the opening
abbrev pub invariant-loop-ready : goal.invariant-loop-ready
invariant-loop-ready g l = record {
  some : 1 ≤ l.ready.nodes;
  within : l.ready.nodes ≤ max 1 l.nodes;
  as_many : length l.ready.replicas ≡ l.ready.nodes - 1;
  opened : All (IsAtOpening l.node.names l.node.board.opening) l.ready.replicas;
}

abbrev pub decreases-loop-ready : goal.decreases-loop-ready
decreases-loop-ready g l = l.nodes - l.ready.nodes
