-- A node of the code, as the machine sees it, and compared with the log.
use Rattle.std.specs.Prelude.{◌≡◌, ◌≢◌, ℕ, ◌≤◌, Option, Some, None, IfSome, IsTrue, Result, Ok, Err, List, length, map, is_some, option_map}
use Rattle.sb_rows.specs.Rows.{SameCustomers}
use Rattle.sb_calls.specs.Cowns.{contents_of}
use Rattle.sb_calls.specs.declared.call.TheConstants.{LOG_CALLS}
use Rattle.sb_calls.specs.declared.op.Op.{Op}
use Rattle.sb_checkpoint.specs.Reading.{stated_reply_count}
use Rattle.cown_board.specs.Board.{length_of}
use Rattle.cown_board.specs.Job.{JobOf}
use Rattle.schedule_player.specs.ReplicaOfLog.{IsBoardOfLog, AreHeldOfLog}
use Rattle.schedule_player.specs.inner.JobOfLog.{IsJobOfLog}
use Rattle.schedule_player.specs.StoredOfLog.{IsStoredOfLog}
use Rattle.schedule_player.specs.Bank.{BankOf}
use Rattle.schedule_player.specs.OneBased.{Every}
use Rattle.schedule_player.specs.ReplicaMoves.{NodeOf}
use Rattle.schedule_player.specs.MachineView.{stages_of, slot_length, ops_of}
use Rattle.schedule_player.specs.World.{may_take_memory}
use Rattle.schedule_player.specs.declared.fault.StepFault.{StepFault}
use Rattle.schedule_player.specs.declared.node.Node.{Node}
use Rattle.schedule_text.specs.declared.note.Note.{Note}
use Rattle.schedule_player.specs.FramesOfLog.{IsEntryOf, IsSentBy}

abbrev pub number_in : JobOf Op → ℕ
number_in job = job.number

-- a node as the machine sees it
abbrev pub machine_node : Node → NodeOf
machine_node node = record {
  stages = stages_of node.replica.board;
  hands = map (option_map number_in) node.hands.items;
  stored = slot_length node.replica.store.slot;
  cut = node.replica.board.cut;
  held = map is_some node.replica.held;
  inbound = node.inbound;
  outbound = node.outbound;
  states = map stated_reply_count node.states;
}

-- the bytes are a state of the bank: a replica of it could have stored them
abbrev pub IsStateOfLog : BankOf → List ℕ → Type 0
IsStateOfLog bank bytes = IsStoredOfLog bank (Some bytes)

-- the state that a replica has for others: the bytes that it keeps, if they have an entry
abbrev pub HasState : BankOf → NodeOf → Option (List ℕ) → Type 0
HasState bank node (Some bytes) = IsStateOfLog bank bytes × (stated_reply_count bytes ≡ node.stored) × (node.stored ≢ 0)
HasState bank node None = node.stored ≡ 0

-- the hand is empty, or has a job of the log
abbrev pub IsHandOfLog : BankOf → Option (JobOf Op) → Type 0
IsHandOfLog bank hand = IfSome hand (IsJobOfLog (contents_of bank.opening) (ops_of bank))

-- the node is replica r of the bank
pub record IsNodeAt (bank : BankOf) (r : ℕ) (node : Node) : Type 0 where
  pub customers : SameCustomers bank.names bank.opening
  pub few : length bank.calls ≤ LOG_CALLS
  pub id : node.replica.id ≡ r
  pub names : node.replica.names ≡ bank.names
  pub opening : node.replica.opening ≡ bank.opening
  pub board : IsBoardOfLog (contents_of bank.opening) (ops_of bank) node.replica.board
  pub held : AreHeldOfLog (ops_of bank) (length_of node.replica.board) node.replica.held
  pub stored : IsStoredOfLog bank node.replica.store.slot
  pub hands : Every (IsHandOfLog bank) node.hands.items
  pub inbound : Every (IsEntryOf bank) node.inbound
  pub outbound : Every (IsSentBy bank r) node.outbound
  pub states : Every (IsStateOfLog bank) node.states

-- nothing that the machine sees changed
pub record IsUnchanged (bank : BankOf) (r : ℕ) (old new : Node) : Type 0 where
  pub consistent : IsNodeAt bank r new
  pub seen : machine_node new ≡ machine_node old

-- the machine moves to what it sees of the node now, with this note
pub record MovesTo (bank : BankOf) (r : ℕ) (new : Node) (note : Note) (moved : NodeOf × Note) : Type 0 where
  pub consistent : IsNodeAt bank r new
  pub move_is : moved ≡ (machine_node new, note)

-- a step that succeeds is the machine's move; if memory is refused nothing that the machine sees
-- changed, and the note on that move is one of those that may take memory
abbrev pub Steps : BankOf → ℕ → Node → Node → Result Note StepFault → NodeOf × Note → Type 0
Steps bank r old new (Ok note) moved = MovesTo bank r new note moved
Steps bank r old new (Err fault) moved = IsUnchanged bank r old new × IsTrue (may_take_memory moved.1)
