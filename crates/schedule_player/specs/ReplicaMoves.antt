-- The reference machine at one replica: what each event does to its numbers, and the note on it.
use Rattle.std.specs.Prelude.{ℕ, suc, ◌+◌, ◌-◌, nat_le, nat_lt, ◌==◌, if◌then◌else◌, Bool, true, false, Option, Some, None, List, [], ◌∷◌, ◌++◌, length, take, drop, count_by, replicate, slice_get, slice_set}
use Rattle.sb_calls.specs.declared.reply.Reply.{Reply}
use Rattle.sb_checkpoint.specs.declared.memory_store.How.{How}
use Rattle.sb_checkpoint.specs.declared.memory_store.How.TheVariants as how
use Rattle.sb_frames.specs.declared.frame.Frame.{Frame}
use Rattle.sb_frames.specs.declared.frame.Frame.TheVariants as frame
use Rattle.sb_sequencer.specs.Entries.{entry_of, entries_to_resend}
use Rattle.sb_sequencer.specs.Sequencer.{SequencerOf}
use Rattle.cown_board.specs.declared.board.TheConstants.{OPEN_BEHAVIOURS}
use Rattle.sb_replica.specs.declared.replica_log.TheConstants.{HELD_ENTRIES}
use Rattle.schedule_player.specs.Bank.{BankOf, log_reply}
use Rattle.schedule_player.specs.OneBased.{nth_item, with_nth}
use Rattle.schedule_player.specs.Readiness.{runnable_entries}
use Rattle.schedule_player.specs.Stage.{Stage, Waits, IsOut, IsDone, is_undone}
use Rattle.schedule_text.specs.declared.event.NodeEvent.{NodeEvent}
use Rattle.schedule_text.specs.declared.event.NodeEvent.TheVariants as event
use Rattle.schedule_text.specs.declared.note.Note.{Note}
use Rattle.schedule_text.specs.declared.note.Note.TheVariants as note

-- the stages of the entries that it accepted, by number from 1; what each worker has in hand, by
-- worker from 1; the length of its stored checkpoint; the length of its cut, if it has one; which
-- of the next HELD_ENTRIES entries it holds, the next one first; all frames that were ever sent to
-- it and from it, and the lengths of all states that were ever sent to it, each by its position from 1
pub record NodeOf : Type 0 where
  pub stages : List Stage
  pub hands : List (Option ℕ)
  pub stored : ℕ
  pub cut : Option ℕ
  pub held : List Bool
  pub inbound : List Frame
  pub outbound : List Frame
  pub states : List ℕ

-- no entry is held
abbrev pub empty_buffer : List Bool
empty_buffer = replicate HELD_ENTRIES false

-- a replica with this many workers at the opening
abbrev pub opened_node : ℕ → NodeOf
opened_node workers = record {
  stages = [];
  hands = replicate workers None;
  stored = 0;
  cut = None;
  held = empty_buffer;
  inbound = [];
  outbound = [];
  states = [];
}

-- how many entries it accepted, and how many of these are undone
abbrev pub length_in : NodeOf → ℕ
length_in node = length node.stages

abbrev pub undone_in : NodeOf → ℕ
undone_in node = count_by is_undone node.stages

-- how many of the entries from 1 to a number are undone
abbrev pub undone_up_to : NodeOf → ℕ → ℕ
undone_up_to node number = count_by is_undone (take number node.stages)

-- ---- a frame comes

-- an entry that is too early is held
abbrev pub with_held : NodeOf → ℕ → NodeOf
with_held node number = record node { held = slice_set node.held (number - length_in node - 1) true }

-- the next entry waits for its turn, and is no longer held
abbrev pub with_accepted : NodeOf → NodeOf
with_accepted node = record node { stages = node.stages ++ Waits ∷ []; held = drop 1 node.held ++ false ∷ [] }

abbrev pub next_entry_move : NodeOf → ℕ → NodeOf × Note
next_entry_move node number =
    if undone_in node == OPEN_BEHAVIOURS then (node, note.Busy (length_in node))
    else (with_accepted node, note.Accepted number)

-- the first case that holds decides
abbrev pub entry_move : NodeOf → ℕ → NodeOf × Note
entry_move node number =
    if nat_le number (length_in node) then (node, note.Repeat number)
    else if nat_lt (length_in node + HELD_ENTRIES) number then (node, note.Gap (length_in node))
    else if nat_lt (suc (length_in node)) number then (with_held node number, note.Held number)
    else next_entry_move node number

abbrev pub frame_move : NodeOf → Option Frame → NodeOf × Note
frame_move node (Some (frame.Entry number call)) = entry_move node number
frame_move node other = (node, note.Nothing)

-- the frame at this position of those sent to the replica arrives
abbrev pub deliver_move : NodeOf → ℕ → NodeOf × Note
deliver_move node position = frame_move node (nth_item node.inbound position)

-- ---- it takes what it holds

abbrev pub held_move : NodeOf → Option Bool → NodeOf × Note
held_move node (Some true) = next_entry_move node (suc (length_in node))
held_move node other = (node, note.Nothing)

-- the entry that is held for the next number comes, if there is one
abbrev pub next_move : NodeOf → NodeOf × Note
next_move node = held_move node (slice_get node.held 0)

-- ---- a worker takes

-- the entry at an index of the log goes out, into a worker's hand
abbrev pub take_entry : NodeOf → ℕ → Option ℕ → NodeOf × Note
take_entry node worker None = (node, note.Nothing)
take_entry node worker (Some index) = (
  record node {
    stages = slice_set node.stages index IsOut;
    hands = with_nth node.hands worker (Some (suc index));
  },
  note.Took (suc index),
)

abbrev pub take_by_hand : BankOf → NodeOf → ℕ → ℕ → Option (Option ℕ) → NodeOf × Note
take_by_hand bank node worker index None = (node, note.Nothing)
take_by_hand bank node worker index (Some (Some number)) = (node, note.HandFull)
take_by_hand bank node worker index (Some None) =
    take_entry node worker (slice_get (runnable_entries bank node.stages) index)

-- the worker takes the entry that may run and has this many before it that may run too
abbrev pub take_move : BankOf → NodeOf → ℕ → ℕ → NodeOf × Note
take_move bank node worker index = take_by_hand bank node worker index (nth_item node.hands worker)

-- ---- a worker finishes

abbrev pub with_empty_hand : NodeOf → ℕ → NodeOf
with_empty_hand node worker = record node { hands = with_nth node.hands worker None }

abbrev pub note_of_reply : ℕ → Option Reply → Note
note_of_reply number (Some reply) = note.Finished number reply
note_of_reply number None = note.Stranger number

-- a number that is out becomes done, with the reply of the log run one by one; every other one is a
-- stranger
abbrev pub finish_by_stage : BankOf → NodeOf → ℕ → Option Stage → NodeOf × Note
finish_by_stage bank node number (Some IsOut) = (
  record node { stages = with_nth node.stages number IsDone },
  note_of_reply number (log_reply bank number),
)
finish_by_stage bank node number other = (node, note.Stranger number)

abbrev pub finish_by_hand : BankOf → NodeOf → ℕ → Option (Option ℕ) → NodeOf × Note
finish_by_hand bank node worker None = (node, note.Nothing)
finish_by_hand bank node worker (Some None) = (node, note.Nothing)
finish_by_hand bank node worker (Some (Some number)) =
    finish_by_stage bank (with_empty_hand node worker) number (nth_item node.stages number)

-- the worker finishes what it has in hand; its hand is empty then
abbrev pub finish_move : BankOf → NodeOf → ℕ → NodeOf × Note
finish_move bank node worker = finish_by_hand bank node worker (nth_item node.hands worker)

-- ---- a cut is made

abbrev pub cut_unless_pending : NodeOf → Option ℕ → NodeOf × Note
cut_unless_pending node (Some size) = (node, note.Pending size)
cut_unless_pending node None = (record node { cut = Some (length_in node) }, note.Cut (length_in node))

-- a cut is made at the length, if there is none yet
abbrev pub cut_move : NodeOf → NodeOf × Note
cut_move node = cut_unless_pending node node.cut

-- ---- a checkpoint is written, and gone back to

-- a mark of the entries up to a length; a put that succeeds removes the cut
abbrev pub put_move : NodeOf → ℕ → How → NodeOf × Note
put_move node size how.Ok = (record node { stored = size; cut = None }, note.Marked size)
put_move node size how.Old = (node, note.StoreFault)
put_move node size how.New = (record node { stored = size }, note.StoreFault)

abbrev pub mark_up_to : NodeOf → How → Option ℕ → NodeOf × Note
mark_up_to node how (Some size) =
    if undone_up_to node size == 0 then put_move node size how else (node, note.Unfinished)
mark_up_to node how None =
    if undone_in node == 0 then put_move node (length_in node) how else (node, note.Unfinished)

-- a mark of the entries up to the cut, or of all entries without a cut
abbrev pub mark_move : NodeOf → How → NodeOf × Note
mark_move node how = mark_up_to node how node.cut

-- it begins at a length, with all entries done: the cut and what was held are gone; hands and
-- frames stay
abbrev pub restart_at : NodeOf → ℕ → NodeOf
restart_at node size = record node { stages = replicate size IsDone; cut = None; held = empty_buffer }

-- it begins anew at the length of its stored checkpoint
abbrev pub restart_move : NodeOf → NodeOf × Note
restart_move node = (restart_at node node.stored, note.Restarted node.stored)

-- ---- it goes on from a state

-- a state of more entries than its log has is adopted; any other leaves the replica as it is
abbrev pub state_move : NodeOf → Option ℕ → NodeOf × Note
state_move node (Some size) =
    if nat_le size (length_in node) then (node, note.Behind (length_in node))
    else (restart_at node size, note.Adopted size)
state_move node None = (node, note.Nothing)

-- the state at this position of those sent to the replica arrives
abbrev pub adopt_move : NodeOf → ℕ → NodeOf × Note
adopt_move node position = state_move node (nth_item node.states position)

-- ---- a replica sends

abbrev pub send_from : NodeOf → Frame → NodeOf × Note
send_from node report =
    (record node { outbound = node.outbound ++ report ∷ [] }, note.Sent (suc (length node.outbound)))

-- it sends the length of its log
abbrev pub ack_move : NodeOf → ℕ → NodeOf × Note
ack_move node replica = send_from node (frame.Ack replica (length_in node))

-- it sends the length of its stored checkpoint
abbrev pub have_move : NodeOf → ℕ → NodeOf × Note
have_move node replica = send_from node (frame.Have replica node.stored)

abbrev pub send_reply : NodeOf → ℕ → Option Reply → NodeOf × Note
send_reply node number (Some reply) = send_from node (frame.Answer number reply)
send_reply node number None = (node, note.Nothing)

-- the reply to a number, if that number is done
abbrev pub reply_by_stage : BankOf → ℕ → Option Stage → Option Reply
reply_by_stage bank number (Some IsDone) = log_reply bank number
reply_by_stage bank number other = None

abbrev pub reply_in_node : BankOf → NodeOf → ℕ → Option Reply
reply_in_node bank node number = reply_by_stage bank number (nth_item node.stages number)

-- it sends its reply to a number, if it has one
abbrev pub answer_move : BankOf → NodeOf → ℕ → NodeOf × Note
answer_move bank node number = send_reply node number (reply_in_node bank node number)

-- ---- an entry is sent to it, and a state

-- a frame is sent to it, if there is one
abbrev pub send_move : NodeOf → Option Frame → NodeOf × Note
send_move node (Some entry) =
    (record node { inbound = node.inbound ++ entry ∷ [] }, note.Sent (suc (length node.inbound)))
send_move node None = (node, note.Nothing)

-- these frames are sent to it
abbrev pub resend_move : NodeOf → List Frame → NodeOf × Note
resend_move node entries = (record node { inbound = node.inbound ++ entries }, note.Resent (length entries))

-- a state of this many entries is sent to it
abbrev pub receive_move : NodeOf → ℕ → NodeOf × Note
receive_move node size = (record node { states = node.states ++ size ∷ [] }, note.Gave (suc (length node.states)))

-- ---- all of them

-- what an event at replica r does there, given the bank and the sequencer
abbrev pub node_move : BankOf → SequencerOf → ℕ → NodeOf → NodeEvent → NodeOf × Note
node_move bank sequencer r node (event.Send number) = send_move node (entry_of sequencer.log number)
node_move bank sequencer r node event.Resend = resend_move node (entries_to_resend sequencer r)
node_move bank sequencer r node (event.To position) = deliver_move node position
node_move bank sequencer r node event.Ack = ack_move node r
node_move bank sequencer r node (event.Answer number) = answer_move bank node number
node_move bank sequencer r node (event.Take worker index) = take_move bank node worker index
node_move bank sequencer r node (event.Finish worker) = finish_move bank node worker
node_move bank sequencer r node (event.Mark how) = mark_move node how
node_move bank sequencer r node event.Restart = restart_move node
node_move bank sequencer r node event.Cut = cut_move node
node_move bank sequencer r node event.Next = next_move node
node_move bank sequencer r node event.Have = have_move node r
node_move bank sequencer r node (event.Adopt position) = adopt_move node position
