-- What holds of every world, whatever happened.
use Rattle.std.specs.Prelude.{◌≡◌, ◌⊎◌, ℕ, suc, ◌≤◌, Some, List, length, slice_get}
use Rattle.sb_calls.specs.declared.reply.Reply.{Reply}
use Rattle.sb_frames.specs.declared.frame.Frame.{Frame}
use Rattle.sb_frames.specs.declared.frame.Frame.TheVariants as frame
use Rattle.schedule_player.specs.Bank.{log_reply}
use Rattle.schedule_player.specs.FramesOfLog.{IsEntryOf, IsSentBy}
use Rattle.schedule_player.specs.OneBased.{Every}
use Rattle.schedule_player.specs.EventLists.{IsWorldAfter}
use Rattle.schedule_player.specs.ReplicaMoves.{NodeOf, length_in}
use Rattle.schedule_player.specs.World.{WorldOf, bank_of}
use Rattle.schedule_text.specs.ScheduleText.{ScheduleOf}

-- compared with the part of the log that is synced: each replica has at most as many entries; each
-- frame to it is an entry; each frame from it has the length of its log or of its checkpoint, which
-- isn't greater, under its own number, or the log's reply to a number; each state that was sent to
-- it isn't longer; each answer that the sequencer keeps is the log's reply
pub record WorldAgreesWithLog (world : WorldOf) : Type 0 where
  pub within : (r : ℕ) (node : NodeOf) → slice_get world.nodes r ≡ Some node
      → length_in node ≤ length world.sequencer.synced.log
  pub inbound : (r : ℕ) (node : NodeOf) → slice_get world.nodes r ≡ Some node
      → Every (IsEntryOf (bank_of world)) node.inbound
  pub outbound : (r : ℕ) (node : NodeOf) → slice_get world.nodes r ≡ Some node
      → Every (IsSentBy (bank_of world) r) node.outbound
  pub states : (r : ℕ) (node : NodeOf) → slice_get world.nodes r ≡ Some node
      → Every (λ size. size ≤ length world.sequencer.synced.log) node.states
  pub stored : (k : ℕ) (reply : Reply) → slice_get world.sequencer.synced.answers k ≡ Some (Some reply)
      → log_reply (bank_of world) (suc k) ≡ Some reply

-- a frame of this kind, with this length, is among those that the replica sent
abbrev pub WasSent : (ℕ → ℕ → Frame) → NodeOf → ℕ → Type 0
WasSent kind node size = (index replica : ℕ) × (slice_get node.outbound index ≡ Some (kind replica size))

-- each of these lengths, one for each replica, is 0 or was sent by its replica
abbrev pub WereSent : (ℕ → ℕ → Frame) → List NodeOf → List ℕ → Type 0
WereSent kind nodes sizes = (r : ℕ) (node : NodeOf) (size : ℕ) → slice_get nodes r ≡ Some node
    → slice_get sizes r ≡ Some size → (size ≡ 0) ⊎ WasSent kind node size

-- recorded lengths of logs were sent in acknowledgements, and those of checkpoints in `Have` frames
abbrev pub RecordsWereSent : WorldOf → Type 0
RecordsWereSent world = WereSent frame.Ack world.nodes world.sequencer.synced.recorded
    × WereSent frame.Have world.nodes world.sequencer.synced.checkpoints

-- after every schedule each recorded length is 0 or was sent by its replica
abbrev pub RecordedLengths : Type 0
RecordedLengths = (schedule : ScheduleOf) (world : WorldOf) → IsWorldAfter schedule world → RecordsWereSent world
