-- A replica as its callers see it.
use Rattle.std.specs.Prelude.{ℕ, Option, List, [], length, ◌++◌}
use Rattle.std.specs.List.{filter_map}
use Rattle.sb_rows.specs.Balances.{Balances}
use Rattle.sb_calls.specs.declared.op.Op.{Op}
use Rattle.sb_calls.specs.declared.reply.Reply.{Reply}
use Rattle.lane_audit.specs.Audit.{balances_total}
use Rattle.cown_board.specs.Board.{BoardOf}
use Rattle.cown_board.specs.BoardCalls.{board_at_opening}
use Rattle.cown_board.specs.State.{finished_reply}
use Rattle.sb_checkpoint.specs.Checkpoint.{Origin}
use Rattle.sb_replica.specs.Log.{LogOf, none_held}

-- its number, the customers' names by place, the balances at the opening, its board, the ops held
-- for later numbers, and its store
pub record ReplicaOf (S : Type 0) : Type 0 where
  pub id : ℕ
  pub names : List (List ℕ)
  pub opening : Balances
  pub board : BoardOf Op
  pub held : List (Option Op)
  pub store : S

-- a replica at an opening, with nothing of the log
abbrev pub replica_at_opening : {S : Type 0} → ℕ → List (List ℕ) → Balances → S → ReplicaOf S
replica_at_opening id names opening store = record {
  id = id;
  names = names;
  opening = opening;
  board = board_at_opening opening [];
  held = none_held;
  store = store;
}

-- what ties a checkpoint to its bank: the number of customers and their opening total
abbrev pub origin_of : {S : Type 0} → ReplicaOf S → Origin
origin_of replica = record {
  customers = length replica.names;
  opening_total = balances_total replica.opening;
}

-- its log: the board and the ops that are held
abbrev pub log_of : {S : Type 0} → ReplicaOf S → LogOf
log_of replica = record { board = replica.board; held = replica.held }

-- the replica with another log
abbrev pub with_log : {S : Type 0} → ReplicaOf S → LogOf → ReplicaOf S
with_log replica log = record replica { board = log.board; held = log.held }

-- all that it has beside its log
pub record RestOf (S : Type 0) : Type 0 where
  pub id : ℕ
  pub names : List (List ℕ)
  pub opening : Balances
  pub store : S

abbrev pub rest_of : {S : Type 0} → ReplicaOf S → RestOf S
rest_of replica =
    record { id = replica.id; names = replica.names; opening = replica.opening; store = replica.store }

-- the replies of a board, by number; if it is idle, these are all
abbrev pub board_replies : BoardOf Op → List Reply
board_replies board = board.base_replies ++ filter_map finished_reply board.states
