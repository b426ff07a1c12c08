-- A frame is heard as the bytes that spell it.
use Rattle.std.proofs.Common.{◌≡◌, Ok, Err, List, [], length, refl, sym, ap, ◌∙◌, append-nil, ℕ}
use Rattle.std.specs.Prelude.{if◌then◌else◌}
use Rattle.sb_calls.proofs.CownContents.{eqb-refl}
use Rattle.sb_frames.proofs.Frames.{begins_so}
use Rattle.sb_frames.specs.Decoding.{decode_result}
use Rattle.sb_frames.specs.Grammar.{IsFrame, Spells, spelling}
use Rattle.sb_frames.specs.declared.fault.FrameFault.TheVariants.{BadLength}
use Rattle.sb_frames.specs.declared.frame.Frame.{Frame}
use Rattle.sb_frames.specs.declared.frame.Frame.TheVariants.{Ask, Entry, Ack, Answer, Outcome, Flush, Have}
use Rattle.sb_replica.specs.Frames.{ReceivesBytes, after_frame, frame_if_whole, frame_answer, whole_frame}
use Rattle.sb_replica.specs.Replica.{ReplicaOf, log_of, with_log}
use Rattle.sb_replica.specs.Receiving.{IsEntry}
use Rattle.sb_replica.specs.declared.heard.Heard.TheVariants.{Ignored}

-- bytes that spell a frame are that frame
pub whole_is : (frame : Frame) (bytes : List ℕ) → Spells frame bytes → whole_frame bytes ≡ Ok frame
whole_is frame bytes h =
    ap (λ (b : List ℕ). frame_if_whole (length bytes) (decode_result b)) (sym (append-nil bytes))
    ∙ ap (frame_if_whole (length bytes)) (begins_so frame bytes [] h)
    ∙ ap (λ b. if b then Ok frame else Err BadLength) (eqb-refl (length bytes))

pub spells : (frame : Frame) → IsFrame frame → Spells frame (spelling frame)
spells frame valid = record { valid = valid; spelled = refl }

pub hears_frame : {S : Type 0} (old : ReplicaOf S) (frame : Frame) → IsFrame frame
    → ReceivesBytes old (spelling frame) (frame_answer old.board frame) (with_log old (after_frame old.names (log_of old) frame))
hears_frame old frame valid =
    record { frame = frame; whole = whole_is frame (spelling frame) (spells frame valid); answer_is = refl; after = refl }

-- a frame that isn't an entry is ignored
pub ignores : {S : Type 0} (old : ReplicaOf S) (frame : Frame) → IsFrame frame → ¬ IsEntry frame → ReceivesBytes old (spelling frame) Ignored old
ignores old (Ask client request call) valid other = hears_frame old (Ask client request call) valid
ignores old (Entry number call) valid other = absurd (other tt)
ignores old (Ack replica size) valid other = hears_frame old (Ack replica size) valid
ignores old (Answer number reply) valid other = hears_frame old (Answer number reply) valid
ignores old (Outcome client request outcome) valid other = hears_frame old (Outcome client request outcome) valid
ignores old Flush valid other = hears_frame old Flush valid
ignores old (Have replica size) valid other = hears_frame old (Have replica size) valid
