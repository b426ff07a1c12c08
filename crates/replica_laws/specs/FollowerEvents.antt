-- What a follower does, as events at one replica of the reference machine.
use Rattle.std.specs.Prelude.{◌≡◌, ◌⊎◌, ℕ, List, [], ◌∷◌, ◌++◌}
use Rattle.std.specs.List.{All, Contains, concat}
use Rattle.sb_checkpoint.specs.MemoryStore.{MemoryStoreOf}
use Rattle.sb_frames.specs.Streaming.{IsShort}
use Rattle.sb_frames.specs.declared.frame.Frame.{Frame}
use Rattle.sb_frames.specs.declared.frame.Frame.TheVariants.{Flush}
use Rattle.sb_sequencer.specs.Sequencer.{SequencerOf}
use Rattle.replica_laws.specs.FollowerMoves.{HandlesMessages, IsFollowerOf, SpellTheLog, follower_node}
use Rattle.bank_server.specs.FollowerTurns.{FollowerOf}
use Rattle.schedule_player.specs.Bank.{BankOf}
use Rattle.schedule_player.specs.ReplicaMoves.{NodeOf, node_move}
use Rattle.schedule_text.specs.declared.event.NodeEvent.{NodeEvent}
use Rattle.schedule_text.specs.declared.event.NodeEvent.TheVariants as event

-- a frame comes, or the first worker takes or finishes
abbrev pub IsFollowerEvent : NodeEvent → Type 0
IsFollowerEvent (event.To position) = Unit {0}
IsFollowerEvent (event.Take worker index) = worker ≡ 1
IsFollowerEvent (event.Finish worker) = worker ≡ 1
IsFollowerEvent other = ⊥

-- replica r after events at it, one after another
abbrev pub node_after_events : BankOf → SequencerOf → ℕ → NodeOf → List NodeEvent → NodeOf
node_after_events bank sequencer r node [] = node
node_after_events bank sequencer r node (happens ∷ events) =
    node_after_events bank sequencer r (node_move bank sequencer r node happens).0 events

-- events at replica r of the machine lead from the old node to the new one
pub record EventsLead (bank : BankOf) (sequencer : SequencerOf) (r : ℕ) (old new : NodeOf) : Type 0 where
  pub events : List NodeEvent
  pub at : All IsFollowerEvent events
  pub after : node_after_events bank sequencer r old events ≡ new

-- the frame is one of those that the machine sent to a replica. It sends no Flush, which is no event
abbrev pub IsSentBefore : List Frame → Frame → Type 0
IsSentBefore inbound frame = (frame ≡ Flush) ⊎ Contains inbound frame

-- a follower of the bank handles messages that spell frames of the log, however they are cut. If the
-- machine sent these frames to replica r, whatever else it sent, what the follower does are events
-- at that replica
abbrev pub MessagesAreEvents : Type 0
MessagesAreEvents = (bank : BankOf) (sequencer : SequencerOf) (r : ℕ) (old new : FollowerOf MemoryStoreOf)
    (messages : List (List ℕ)) (frames inbound : List Frame)
    → IsFollowerOf bank old.replica → IsShort old.stream
    → SpellTheLog bank (old.stream.unread ++ concat messages) frames → All (IsSentBefore inbound) frames
    → HandlesMessages old messages new
    → EventsLead bank sequencer r (follower_node inbound old.replica) (follower_node inbound new.replica)
