-- The moves of a replica are events at it.
use Rattle.std.proofs.Common.{◌≡◌, inl, inr, ℕ, suc, Some, List, [], ◌∷◌, refl, sym, ap, subst, ◌∙◌}
use Rattle.std.specs.List.{AllByRecursion}
use Rattle.std.proofs.lemmas.List.Elements.{All-cons, All-nil}
use Rattle.sb_frames.specs.declared.frame.Frame.{Frame}
use Rattle.sb_sequencer.specs.Sequencer.{SequencerOf}
use Rattle.schedule_player.specs.Bank.{BankOf}
use Rattle.schedule_player.specs.ReplicaMoves.{NodeOf, frame_move, node_move}
use Rattle.schedule_player.proofs.Lists.{get_here}
use Rattle.schedule_text.specs.declared.event.NodeEvent.{NodeEvent}
use Rattle.schedule_text.specs.declared.event.NodeEvent.TheVariants as event
use Rattle.replica_laws.specs.FollowerEvents.{EventsLead, IsFollowerEvent, IsSentBefore, node_after_events}
use Rattle.replica_laws.specs.FollowerMoves.{FollowerMove, Hears, Takes, Finishes, follower_move, frames_heard, node_after}
use Rattle.replica_laws.proofs.SentFrames.{move_keeps}

module _ (bank : BankOf) (sequencer : SequencerOf) (r : ℕ) where
  -- one event before others
  happens_before : (old mid new : NodeOf) (first : NodeEvent) → IsFollowerEvent first → (node_move bank sequencer r old first).0 ≡ mid
      → EventsLead bank sequencer r mid new → EventsLead bank sequencer r old new
  happens_before old mid new first at made others = record {
    events = first ∷ others.events;
    at = All-cons IsFollowerEvent first others.events at others.at;
    after = ap (λ node. node_after_events bank sequencer r node others.events) made ∙ others.after;
  }

  -- a frame that was sent comes; a Flush is no event
  hears_event : (old new : NodeOf) (one : Frame) → IsSentBefore old.inbound one → EventsLead bank sequencer r (follower_move bank old (Hears one)) new
      → EventsLead bank sequencer r old new
  hears_event old new one (inl flush) others =
      subst (λ node. EventsLead bank sequencer r node new) (ap (λ f. (frame_move old (Some f)).0) flush) others
  hears_event old new one (inr sent) others =
      let place = sent.0 in
      happens_before old (follower_move bank old (Hears one)) new (event.To (suc place)) tt
      (ap (λ found. (frame_move old found).0) (get_here old.inbound place one sent.1 (sym sent.2))) others

  -- moves that hear what was sent are events
  pub events_happen : (moves : List FollowerMove) (node : NodeOf) → AllByRecursion (IsSentBefore node.inbound) (frames_heard moves)
      → EventsLead bank sequencer r node (node_after bank node moves)
  events_happen [] node sent = record { events = []; at = All-nil IsFollowerEvent; after = refl }
  events_happen (Hears one ∷ moves) node sent =
      let mid = follower_move bank node (Hears one) in
      hears_event node (node_after bank mid moves) one sent.0
      (events_happen moves mid
      (subst (λ inbound. AllByRecursion (IsSentBefore inbound) (frames_heard moves)) (sym (move_keeps bank node (Hears one))) sent.1))
  events_happen (Takes index ∷ moves) node sent =
      let mid = follower_move bank node (Takes index) in
      happens_before node mid (node_after bank mid moves) (event.Take 1 index) refl refl
      (events_happen moves mid
      (subst (λ inbound. AllByRecursion (IsSentBefore inbound) (frames_heard moves)) (sym (move_keeps bank node (Takes index))) sent))
  events_happen (Finishes ∷ moves) node sent =
      let mid = follower_move bank node Finishes in
      happens_before node mid (node_after bank mid moves) (event.Finish 1) refl refl
      (events_happen moves mid
      (subst (λ inbound. AllByRecursion (IsSentBefore inbound) (frames_heard moves)) (sym (move_keeps bank node Finishes)) sent))
