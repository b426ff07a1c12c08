-- How many replicas and workers a schedule may have.
use Rattle.std.specs.Prelude.{ℕ, ◌≤◌}
use Rattle.sb_calls.specs.declared.nodes.TheConstants.{REPLICAS, WORKERS}

-- from one replica, with at least one worker each, up to as many of both as a bank may have
pub record IsHead (nodes workers : ℕ) : Type 0 where
  pub has_node : 1 ≤ nodes
  pub node_limit : nodes ≤ REPLICAS
  pub has_worker : 1 ≤ workers
  pub worker_limit : workers ≤ WORKERS
