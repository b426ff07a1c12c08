-- The turns of a follower are moves of the machine.
use Rattle.std.proofs.Common.{◌≡◌, ℕ, zero, suc, List, [], ◌∷◌, ◌++◌, refl, sym, ap, subst, ◌∙◌}
use Rattle.std.proofs.lemmas.List.Elements.{recursion_from_All}
use Rattle.sb_checkpoint.specs.MemoryStore.{MemoryStoreOf}
use Rattle.cown_board.specs.Board.{unfinished_of}
use Rattle.sb_frames.specs.declared.frame.Frame.{Frame}
use Rattle.sb_replica.specs.Receiving.{ReceivesNext}
use Rattle.sb_replica.specs.Replica.{ReplicaOf}
use Rattle.sb_replica.specs.declared.heard.Heard.{Heard}
use Rattle.sb_replica.specs.declared.heard.Heard.TheVariants.{Ignored}
use Rattle.sb_replica.specs.declared.received.Received.TheVariants.{Entry, Other, Short, Busy}
use Rattle.schedule_player.specs.Bank.{BankOf}
use Rattle.bank_server.specs.FollowerTurns.{FollowerOf, Turn, Takes, Runs, TakesTurn, TakesTurns}
use Rattle.replica_laws.specs.FollowerMoves.{FollowerMove, Hears, FollowersMove, HandsOutAll, HandsOutTheLog, IsFollowerOf, IsSentToFollowers, MovesLead, MovesAlong, follower_node, frames_heard, node_after}
use Rattle.replica_laws.proofs.FramesHandedOut.{all_before, handed_append, log_from_there}
use Rattle.replica_laws.proofs.FramesHeard.{hears_frame}
use Rattle.replica_laws.proofs.MovesInOrder.{heard_both, node_after_both}
use Rattle.replica_laws.proofs.WorkInPlace.{work_moves, works_alike}

-- ---- moves, one after another

pub leads_on : (bank : BankOf) (old mid new : ReplicaOf MemoryStoreOf) (first second : List FollowerMove) → MovesLead bank old first mid
    → MovesLead bank mid second new → MovesLead bank old (first ++ second) new
leads_on bank old mid new first second before after inbound =
    node_after_both bank (follower_node inbound old) first second
    ∙ ap (λ node. node_after bank node second) (before inbound) ∙ after inbound

none_heard : (n : ℕ) → frames_heard (work_moves n) ≡ []
none_heard zero = refl
none_heard (suc n) = none_heard n

-- ---- turns, one after another

module _ (bank : BankOf) where
  stays_along : (old new : FollowerOf MemoryStoreOf) → IsFollowerOf bank old.replica → HandsOutTheLog bank old.stream → new ≡ old → MovesAlong bank old new
  stays_along old new is log same =
      subst (MovesAlong bank old) (sym same) (record { replica = is; stream = log; moves = []; heard = refl; moved = λ inbound. refl })

  along_both : (old mid new : FollowerOf MemoryStoreOf) → MovesAlong bank old mid → MovesAlong bank mid new → MovesAlong bank old new
  along_both old mid new first second = record {
    replica = second.replica;
    stream = second.stream;
    moves = first.moves ++ second.moves;
    heard = subst (λ (frames : List Frame). HandsOutAll old.stream frames new.stream) (sym (heard_both first.moves second.moves))
        (handed_append (frames_heard first.moves) (frames_heard second.moves) old.stream mid.stream new.stream first.heard second.heard);
    moved = leads_on bank old.replica mid.replica new.replica first.moves second.moves first.moved second.moved;
  }

  -- a frame that the stream hands out
  frame_along : (old new : FollowerOf MemoryStoreOf) (frame : Frame) (answer : Heard) → IsFollowerOf bank old.replica
      → HandsOutTheLog bank old.stream → ReceivesNext old.replica old.stream frame answer new.replica new.stream → MovesAlong bank old new
  frame_along old new frame answer is log received =
      let frames : List Frame = frame ∷ [] in
      let handed : HandsOutAll old.stream frames new.stream = (new.stream, sym received.next, refl) in
      let valid = (all_before frames old.stream new.stream log.bytes handed).valid.0 in
      let sent = (recursion_from_All (IsSentToFollowers bank) frames (log.frames frames new.stream handed)).0 in
      let heard = hears_frame bank old.replica new.replica frame answer is valid sent received.received in
      record {
        replica = heard.replica;
        stream = log_from_there bank frames old.stream new.stream log handed;
        moves = Hears frame ∷ [];
        heard = handed;
        moved = heard.moved;
      }

  turn_along : (old : FollowerOf MemoryStoreOf) (turn : Turn) (new : FollowerOf MemoryStoreOf) → IsFollowerOf bank old.replica
      → HandsOutTheLog bank old.stream → TakesTurn old turn new → MovesAlong bank old new
  turn_along old (Takes (Entry answer)) new is log took = frame_along old new took.0 answer is log took.3
  turn_along old (Takes (Other frame)) new is log took = frame_along old new frame Ignored is log took.1
  turn_along old (Takes Short) new is log took =
      stays_along old new is log (λ j. record { replica = took.1 j; stream = took.2 j })
  turn_along old (Takes Busy) new is log took =
      stays_along old new is log (λ j. record { replica = took.1 j; stream = took.2 j })
  turn_along old Runs new is log (runs, same) =
      let count = unfinished_of old.replica.board in
      let worked = works_alike bank old.replica new.replica is runs in
      record {
        replica = worked.0;
        stream = subst (HandsOutTheLog bank) (sym same) log;
        moves = work_moves count;
        heard = subst (λ (some : List Frame). HandsOutAll old.stream some new.stream) (sym (none_heard count)) same;
        moved = worked.1;
      }

  turns_along : (old : FollowerOf MemoryStoreOf) (turns : List Turn) (new : FollowerOf MemoryStoreOf) → IsFollowerOf bank old.replica
      → HandsOutTheLog bank old.stream → TakesTurns old turns new → MovesAlong bank old new
  turns_along old [] new is log same = stays_along old new is log same
  turns_along old (turn ∷ turns) new is log taken =
      let first = turn_along old turn taken.0 is log taken.1 in
      along_both old taken.0 new first (turns_along taken.0 turns new first.replica first.stream taken.2)

pub turns_are_moves : FollowersMove
turns_are_moves bank old new turns is log taken = turns_along bank old turns new is log taken
