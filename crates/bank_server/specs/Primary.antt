-- The log, node 0, which executes it, and who keeps it.
use Rattle.std.specs.Prelude.{◌≡◌, ℕ, None, List, [], ◌++◌, map}
use Rattle.sb_rows.specs.Rows.{Rows, SameCustomers, rows_of}
use Rattle.sb_calls.specs.Op.{op_of}
use Rattle.sb_calls.specs.declared.ask.Key.{Key}
use Rattle.sb_calls.specs.declared.call.Call.{Call}
use Rattle.sb_calls.specs.declared.op.Op.{Op}
use Rattle.sb_rows.specs.declared.opening.Opening.{Opening}
use Rattle.cown_board.specs.Board.{BoardOf}
use Rattle.sb_replica.specs.Replica.{ReplicaOf, replica_at_opening, rest_of}
use Rattle.sb_sequencer.specs.Numbering.{IsLog, calls_of}
use Rattle.sb_ask_log.specs.Keeping.{KeeperGoesOn, KeeperModel}
use Rattle.bank_server.specs.Execution.{IsWholeLog, IsOneByOne}
use Rattle.bank_server.specs.NodeTurns.{TurnsLead}
use Rattle.bank_server.specs.declared.node0.ask_counts.AskCounts.{AskCounts}

-- the ops of a log's calls, by these names
abbrev pub log_ops : List (List ℕ) → List (Key × Call) → List Op
log_ops names log = map (op_of names) (calls_of log)

-- the new log begins with the old one
abbrev pub ExtendsLog : List (Key × Call) → List (Key × Call) → Type 0
ExtendsLog old new = (more : List (Key × Call)) × (new ≡ old ++ more)

-- the board has a beginning of these ops, nothing came before it, and it has no cut
pub record HasPrefixOf (ops : List Op) (board : BoardOf Op) : Type 0 where
  pub base_replies : board.base_replies ≡ []
  pub uncut : board.cut ≡ None
  pub begins : (rest : List Op) × (ops ≡ board.log ++ rest)

-- the log, how many asks it answered since it was opened, the replica that is node 0, and the keeper of
-- the log
pub record PrimaryOf (S K : Type 0) : Type 0 where
  pub log : List (Key × Call)
  pub counts : AskCounts
  pub node : ReplicaOf S
  pub keeper : K

-- node 0 at an opening, with nothing of the log
abbrev pub node_at_opening : {S : Type 0} → Opening → S → ReplicaOf S
node_at_opening opening store = replica_at_opening 0 opening.directory opening.columns store

-- the rows on which the log is executed
abbrev pub opening_rows_of : {S K : Type 0} → PrimaryOf S K → Rows
opening_rows_of primary = rows_of primary.node.names primary.node.board.opening

-- what always holds of the log and node 0
pub record IsPrimary {S K : Type 0} (primary : PrimaryOf S K) : Type 0 where
  pub log : IsLog primary.log
  pub customers : SameCustomers primary.node.names primary.node.board.opening
  pub behind : HasPrefixOf (log_ops primary.node.names primary.log) primary.node.board

-- node 0 has executed the whole log
abbrev pub HasWholeLog : {S K : Type 0} → PrimaryOf S K → Type 0
HasWholeLog primary = IsWholeLog (log_ops primary.node.names primary.log) primary.node.board

-- node 0 keeps its identity, its names and its store, over the same opening; the log is the same or
-- longer, and its keeper goes on; and node 0 was offered entries of that log and exchanged jobs with its
-- crew, and nothing else
pub record PreservesBank {S K : Type 0} (model : KeeperModel K) (old new : PrimaryOf S K) : Type 0 where
  pub rest : rest_of new.node ≡ rest_of old.node
  pub opening : new.node.board.opening ≡ old.node.board.opening
  pub log : ExtendsLog old.log new.log
  pub keeper : KeeperGoesOn model old.keeper old.log new.keeper new.log
  pub turns : TurnsLead (log_ops new.node.names new.log) old.node new.node

-- a node that had nothing of this log executed it, over its names and its opening, as if the calls
-- were run one by one
pub record RunsLog {S : Type 0} (log : List (Key × Call)) (old new : ReplicaOf S) : Type 0 where
  pub names_are : new.names ≡ old.names
  pub opening_is : new.board.opening ≡ old.board.opening
  pub log_is : new.board.log ≡ log_ops old.names log
  pub one_by_one : IsOneByOne new.names (calls_of log) new.board.opening new.board
