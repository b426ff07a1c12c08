-- Node 0's replica as one of the reference machine: each of its turns is a list of that machine's moves.
use Rattle.std.specs.Prelude.{◌≡◌, ℕ, ◌≤◌, true, Some, None, List, [], ◌∷◌, ◌++◌, length, map, is_some, slice_get}
use Rattle.std.specs.List.{All}
use Rattle.sb_rows.specs.Rows.{SameCustomers}
use Rattle.sb_calls.specs.Behaviour.{declared_cowns}
use Rattle.sb_calls.specs.Cowns.{contents_of}
use Rattle.sb_calls.specs.declared.call.Call.{Call}
use Rattle.sb_calls.specs.declared.call.TheConstants.{LOG_CALLS}
use Rattle.sb_calls.specs.declared.op.Op.{Op}
use Rattle.sb_frames.specs.declared.frame.Frame.{Frame}
use Rattle.sb_replica.specs.Replica.{ReplicaOf, replica_at_opening}
use Rattle.cown_board.specs.Board.{BoardOf, length_of}
use Rattle.cown_board.specs.Readiness.{is_clear_at}
use Rattle.cown_board.specs.declared.state.State.{State}
use Rattle.cown_board.specs.declared.state.State.TheVariants.{Waiting, Out, Finished}
use Rattle.bank_server.specs.NodeTurns.{NodeTurn, TakesNodeTurns}
use Rattle.replica_laws.specs.FollowerMoves.{FollowerMove, frames_heard, node_after}
use Rattle.schedule_player.specs.Bank.{BankOf}
use Rattle.schedule_player.specs.FramesOfLog.{IsEntryOf}
use Rattle.schedule_player.specs.MachineView.{stages_of, ops_of}
use Rattle.schedule_player.specs.ReplicaMoves.{NodeOf, opened_node, restart_move}
use Rattle.schedule_player.specs.ReplicaOfLog.{IsBoardOfLog, AreHeldOfLog}

-- ---- node 0

-- an op that the crew has still waits in the machine, which takes it just before it finishes it
abbrev pub waits_if_out : State → State
waits_if_out Waiting = Waiting
waits_if_out Out = Waiting
waits_if_out (Finished reply) = Finished reply

abbrev pub with_none_out : BoardOf Op → BoardOf Op
with_none_out board = record board { states = map waits_if_out board.states }

-- node 0 as the machine sees it, once these frames were sent to it: it has one worker, whose hand is
-- empty between turns. It stores nothing, sends nothing, and is given no state
abbrev pub node0_node : {S : Type 0} → List Frame → ReplicaOf S → NodeOf
node0_node inbound replica = record {
  stages = stages_of (with_none_out replica.board);
  hands = None ∷ [];
  stored = 0;
  cut = replica.board.cut;
  held = map is_some replica.held;
  inbound = inbound;
  outbound = [];
  states = [];
}

-- each op that is out was ready: no unfinished op before it shares a cown with it
abbrev pub AreClear : BoardOf Op → Type 0
AreClear board =
    (k : ℕ) → slice_get board.states k ≡ Some Out → is_clear_at declared_cowns board.log board.states k ≡ true

-- the replica is node 0 of the bank: its board and what it holds are of the bank's log
pub record IsNode0Of {S : Type 0} (bank : BankOf) (replica : ReplicaOf S) : Type 0 where
  pub customers : SameCustomers bank.names bank.opening
  pub few : length bank.calls ≤ LOG_CALLS
  pub board : IsBoardOfLog (contents_of bank.opening) (ops_of bank) replica.board
  pub held : AreHeldOfLog (ops_of bank) (length_of replica.board) replica.held
  pub clear : AreClear replica.board

-- ---- the law of openings

-- a replica at the opening is node 0 of each bank with this opening. It is the machine's replica at
-- the opening, with one worker, and that replica after a restart
abbrev pub Node0Opens : Type 0 → Type 0
Node0Opens S = (bank : BankOf) (replica : ReplicaOf S) (store : S) → SameCustomers bank.names bank.opening
    → length bank.calls ≤ LOG_CALLS → replica ≡ replica_at_opening 0 bank.names bank.opening store
    → IsNode0Of bank replica
    × ((inbound : List Frame) → node0_node inbound replica ≡ record (opened_node 1) { inbound = inbound })
    × ((inbound : List Frame) (old : ReplicaOf S)
    → (restart_move (node0_node inbound old)).0 ≡ node0_node inbound replica)

-- ---- the law of turns

-- the replica is still node 0 of the bank. It went from old to new by moves of the machine, which
-- heard entries of the log, whatever was sent to it
pub record MovesAsNode0 {S : Type 0} (bank : BankOf) (old new : ReplicaOf S) : Type 0 where
  pub replica : IsNode0Of bank new
  pub moves : List FollowerMove
  pub heard : All (IsEntryOf bank) (frames_heard moves)
  pub moved : (inbound : List Frame) → node_after bank (node0_node inbound old) moves ≡ node0_node inbound new

-- the turns of node 0 are moves of the machine
abbrev pub Node0Moves : Type 0 → Type 0
Node0Moves S = (bank : BankOf) (old new : ReplicaOf S) (turns : List NodeTurn)
    → IsNode0Of bank old → TakesNodeTurns (ops_of bank) old turns new → MovesAsNode0 bank old new

-- ---- the law of longer logs

-- the replica stays node 0 of the bank as the log goes on
abbrev pub Node0Stays : Type 0 → Type 0
Node0Stays S = (bank : BankOf) (replica : ReplicaOf S) (more : List Call) → IsNode0Of bank replica
    → length (bank.calls ++ more) ≤ LOG_CALLS → IsNode0Of (record bank { calls = bank.calls ++ more }) replica
