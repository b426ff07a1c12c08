-- A follower that handles messages hears the frames that they spell.
use Rattle.std.proofs.Common.{◌≡◌, ℕ, ◌<◌, Result, Ok, Err, List, [], ◌∷◌, ◌++◌, refl, sym, ap, subst, ◌∙◌, append_assoc}
use Rattle.std.specs.List.{All, concat, flat_map}
use Rattle.std.proofs.lemmas.List.{append-nil}
use Rattle.std.proofs.lemmas.List.Elements.{recursion_from_All}
use Rattle.sb_checkpoint.specs.MemoryStore.{MemoryStoreOf}
use Rattle.sb_frames.proofs.Frames.{decoded_again}
use Rattle.sb_frames.specs.Decoding.{decode_result}
use Rattle.sb_frames.specs.Grammar.{IsFrame, spelling}
use Rattle.sb_frames.specs.Streaming.{AreBytes, IsShort, StreamState}
use Rattle.sb_frames.specs.declared.fault.FrameFault.{FrameFault}
use Rattle.sb_frames.specs.declared.fault.FrameFault.TheVariants.{Short}
use Rattle.sb_frames.specs.declared.frame.Frame.{Frame}
use Rattle.schedule_player.specs.Bank.{BankOf}
use Rattle.bank_server.proofs.clients.ClientAsks.{All-behind}
use Rattle.replica_laws.specs.FollowerMoves.{HandlesMessages, HearsOut, IsFollowerOf, IsSentToFollowers, MessagesMove, MovesAlong, SpellTheLog, follower_node, frames_heard}
use Rattle.bank_server.specs.FollowerTurns.{FollowerOf, HandlesMessage}
use Rattle.replica_laws.proofs.FramesHandedOut.{all_before, given_first, spelled_log}
use Rattle.replica_laws.proofs.FollowerTurns.{leads_on, turns_are_moves}
use Rattle.replica_laws.proofs.MovesInOrder.{heard_both}

-- ---- the end

ok_short : {found : Frame × ℕ} → ◌≡◌ {A = Result (Frame × ℕ) FrameFault} (Ok found) (Err Short) → ⊥
ok_short h = cc

-- bytes that spell frames, and are less than one, are none
none_left : (frames : List Frame) (stream : StreamState) → IsShort stream → All IsFrame frames → stream.unread ≡ flat_map spelling frames
    → (frames ≡ []) × (stream.unread ≡ [])
none_left [] stream short valid e = (refl, e)
none_left (frame ∷ frames) stream short valid e =
    absurd (ok_short
    (sym (decoded_again frame (flat_map spelling frames) (recursion_from_All IsFrame (frame ∷ frames) valid).0)
    ∙ ap decode_result (sym e) ∙ short.1))

-- ---- one message after another

module _ (bank : BankOf) where
  -- after a message, the frames that are left
  record LeavesFrames (old new : FollowerOf MemoryStoreOf) (more : List ℕ) (frames : List Frame) : Type 0 where
    along : MovesAlong bank old new
    left : List Frame
    whole : frames ≡ frames_heard along.moves ++ left
    spelled : SpellTheLog bank (new.stream.unread ++ more) left

  turns_leave : (old new : FollowerOf MemoryStoreOf) (more : List ℕ) (frames : List Frame) → SpellTheLog bank (old.stream.unread ++ more) frames
      → MovesAlong bank old new → LeavesFrames old new more frames
  turns_leave old new more frames log along =
      let heard = frames_heard along.moves in
      let before = all_before heard old.stream new.stream (spelled_log bank old.stream more frames log).bytes along.heard in
      let parts : flat_map spelling heard ++ (new.stream.unread ++ more) ≡ old.stream.unread ++ more =
      sym (append_assoc (flat_map spelling heard) new.stream.unread more) ∙ ap (λ front. front ++ more) (sym before.spelled) in
      let first = given_first heard frames (new.stream.unread ++ more) before.valid (recursion_from_All IsFrame frames log.valid) (parts ∙ log.spelled) in
      record {
        along = along;
        left = first.0;
        whole = first.1;
        spelled = record {
          are_bytes = All-behind (λ byte. byte < 256) (flat_map spelling heard) (new.stream.unread ++ more) (subst AreBytes (sym parts) log.are_bytes);
          spelled = first.2;
          valid = All-behind IsFrame heard first.0 (subst (All IsFrame) first.1 log.valid);
          sent = All-behind (IsSentToFollowers bank) heard first.0 (subst (All (IsSentToFollowers bank)) first.1 log.sent);
        };
      }

  message_leaves : (old new : FollowerOf MemoryStoreOf) (bytes more : List ℕ) (frames : List Frame) → IsFollowerOf bank old.replica
      → SpellTheLog bank (old.stream.unread ++ (bytes ++ more)) frames → (handles : HandlesMessage old bytes new)
      → LeavesFrames (record old { stream = handles.fed }) new more frames
  message_leaves old new bytes more frames is log handles =
      let fed = handles.fed in
      let unread : old.stream.unread ++ (bytes ++ more) ≡ fed.unread ++ more =
      sym (append_assoc old.stream.unread bytes more) ∙ ap (λ (s : StreamState). s.unread ++ more) (sym handles.feeds.1) in
      let spelled = subst (λ all. SpellTheLog bank all frames) unread log in
      turns_leave (record old { stream = fed }) new more frames spelled
      (turns_are_moves bank (record old { stream = fed }) new handles.rest.turns is (spelled_log bank fed more frames spelled) handles.rest.taken)

  hears_out : (old : FollowerOf MemoryStoreOf) (messages : List (List ℕ)) (new : FollowerOf MemoryStoreOf) (frames : List Frame)
      → IsFollowerOf bank old.replica → IsShort old.stream → SpellTheLog bank (old.stream.unread ++ concat messages) frames
      → HandlesMessages old messages new → HearsOut bank old new frames
  hears_out old [] new frames is short log same =
      let none = none_left frames old.stream short log.valid (sym (append-nil old.stream.unread) ∙ log.spelled) in
      record {
        replica = subst (λ (f : FollowerOf MemoryStoreOf). IsFollowerOf bank f.replica) (sym same) is;
        unread = ap (λ (f : FollowerOf MemoryStoreOf). f.stream.unread) same ∙ none.1;
        moves = [];
        heard = sym none.0;
        moved = λ inbound. ap (λ (f : FollowerOf MemoryStoreOf). follower_node inbound f.replica) (sym same);
      }
  hears_out old (bytes ∷ messages) new frames is short log handled =
      let mid = handled.0 in
      let first = message_leaves old mid bytes (concat messages) frames is log handled.1 in
      let rest = hears_out mid messages new first.left first.along.replica handled.1.rest.short first.spelled handled.2 in
      record {
        replica = rest.replica;
        unread = rest.unread;
        moves = first.along.moves ++ rest.moves;
        heard =
            heard_both first.along.moves rest.moves ∙ ap (λ others. frames_heard first.along.moves ++ others) rest.heard ∙ sym first.whole;
        moved = leads_on bank old.replica mid.replica new.replica first.along.moves rest.moves first.along.moved rest.moved;
      }

pub messages_are_moves : MessagesMove
messages_are_moves bank old new messages frames is short log handled = hears_out bank old messages new frames is short log handled
