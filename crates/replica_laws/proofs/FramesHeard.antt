-- A follower hears the frames of the log as the machine does.
use Rattle.std.proofs.Common.{◌≡◌, inl, inr, Some, List, refl, sym, ap, subst, ◌∙◌, arith}
use Rattle.cown_workers.specs.Draining.{HasNoneOut}
use Rattle.sb_calls.specs.Op.{op_of}
use Rattle.sb_calls.specs.declared.op.Op.{Op}
use Rattle.sb_checkpoint.specs.MemoryStore.{MemoryStoreOf}
use Rattle.sb_frames.proofs.ReadingSteps.{same_value}
use Rattle.sb_frames.specs.Grammar.{IsFrame, spelling}
use Rattle.sb_frames.specs.declared.frame.Frame.{Frame}
use Rattle.sb_replica.specs.Frames.{ReceivesBytes, after_frame}
use Rattle.sb_replica.specs.Replica.{ReplicaOf, log_of, with_log}
use Rattle.sb_replica.specs.declared.heard.Heard.{Heard}
use Rattle.sb_replica.specs.Log.{LogOf}
use Rattle.sb_replica.specs.Offers.{after_offer, offer_answer}
use Rattle.sb_replica.specs.declared.offered.Offered.{Offered}
use Rattle.sb_replica.specs.declared.offered.Offered.TheVariants as offer
use Rattle.schedule_player.specs.Bank.{BankOf}
use Rattle.schedule_player.specs.FramesOfLog.{IsEntryOf}
use Rattle.schedule_player.specs.ReplicaMoves.{frame_move}
use Rattle.schedule_player.proofs.entries.EntryOffers.{IsLogAlong, entry_alike, offer_along}
use Rattle.schedule_player.proofs.entries.FrameSteps.{number_within, whole_spelled}
use Rattle.bank_server.proofs.boards.Boards.{none_out_more}
use Rattle.replica_laws.specs.FollowerMoves.{IsFollowerOf, IsSentToFollowers, follower_node}

-- ---- nothing gets out

none_out_offered : (log : LogOf) (op : Op) (answer : Offered) → HasNoneOut log.board → HasNoneOut (after_offer log op answer).board
none_out_offered log op offer.Next none = none_out_more log.board.states none
none_out_offered log op offer.Repeat none = none
none_out_offered log op (offer.Gap size) none = none
none_out_offered log op (offer.Held number) none = none
none_out_offered log op (offer.Busy size) none = none

-- ---- one frame

-- only the log of the replica changes
with_log_along : (bank : BankOf) (old : ReplicaOf MemoryStoreOf) (log : LogOf) → IsFollowerOf bank old → IsLogAlong bank log → HasNoneOut log.board
    → IsFollowerOf bank (with_log old log)
with_log_along bank old log is along none = record {
  customers = is.customers;
  few = is.few;
  names = is.names;
  opening = is.opening;
  board = along.board;
  held = along.held;
  stored = is.stored;
  none_out = none;
}

-- the follower is still one of the bank, and the machine heard the same frame
pub record HearsAlike (bank : BankOf) (old : ReplicaOf MemoryStoreOf) (sent : Frame) (new : ReplicaOf MemoryStoreOf) : Type 0 where
  pub replica : IsFollowerOf bank new
  pub moved : (inbound : List Frame) → (frame_move (follower_node inbound old) (Some sent)).0 ≡ follower_node inbound new

-- the replica after the frame that the bytes spell
after_sent : (old new : ReplicaOf MemoryStoreOf) (sent : Frame) (answer : Heard) → IsFrame sent → ReceivesBytes old (spelling sent) answer new
    → new ≡ with_log old (after_frame old.names (log_of old) sent)
after_sent old new sent answer valid hears =
    let same : hears.frame ≡ sent =
    same_value hears.frame sent (sym hears.whole ∙ whole_spelled sent (spelling sent) (record { valid = valid; spelled = refl })) in
    hears.after ∙ ap (λ f. with_log old (after_frame old.names (log_of old) f)) same

hears_entry : (bank : BankOf) (old new : ReplicaOf MemoryStoreOf) (sent : Frame) → IsFollowerOf bank old → (entry : IsEntryOf bank sent)
    → new ≡ with_log old (after_frame old.names (log_of old) sent) → HearsAlike bank old sent new
hears_entry bank old new sent is entry after =
    let log = log_of old in
    let n = entry.number in
    let op = op_of bank.names entry.call in
    let later = after_offer log op (offer_answer log.board n) in
    let few = is.few in
    let inside = number_within bank.calls n entry.call entry.in_log in
    let new_is : new ≡ with_log old later =
    after ∙ ap (λ f. with_log old (after_frame old.names log f)) entry.frame_is
    ∙ ap (λ names. with_log old (after_offer log (op_of names entry.call) (offer_answer log.board n))) is.names in
    record {
      replica = subst (IsFollowerOf bank) (sym new_is)
          (with_log_along bank old later is
          (offer_along bank log entry.call n (record { board = is.board; held = is.held }) entry.in_log (offer_answer log.board n) refl)
          (none_out_offered log op (offer_answer log.board n) is.none_out));
      moved = λ inbound.
          ap (λ f. (frame_move (follower_node inbound old) (Some f)).0) entry.frame_is
          ∙ ap (λ moved. moved.0) (entry_alike (follower_node inbound old) log op n is.board.states (omega (arith, inside, few)))
          ∙ ap (follower_node inbound) (sym new_is);
    }

hears_sent : (bank : BankOf) (old new : ReplicaOf MemoryStoreOf) (sent : Frame) → IsFollowerOf bank old → IsSentToFollowers bank sent
    → new ≡ with_log old (after_frame old.names (log_of old) sent) → HearsAlike bank old sent new
hears_sent bank old new sent is (inl entry) after = hears_entry bank old new sent is entry after
hears_sent bank old new sent is (inr flush) after =
    let new_is : new ≡ old = after ∙ ap (λ f. with_log old (after_frame old.names (log_of old) f)) flush in
    record {
      replica = subst (IsFollowerOf bank) (sym new_is) is;
      moved = λ inbound. ap (λ f. (frame_move (follower_node inbound old) (Some f)).0) flush ∙ ap (follower_node inbound) (sym new_is);
    }

-- so it is with a frame that the replica received as the bytes that spell it
pub hears_frame : (bank : BankOf) (old new : ReplicaOf MemoryStoreOf) (sent : Frame) (answer : Heard) → IsFollowerOf bank old → IsFrame sent
    → IsSentToFollowers bank sent → ReceivesBytes old (spelling sent) answer new → HearsAlike bank old sent new
hears_frame bank old new sent answer is valid to hears = hears_sent bank old new sent is to (after_sent old new sent answer valid hears)
