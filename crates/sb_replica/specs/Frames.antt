-- What a replica makes of bytes from the network.
use Rattle.std.specs.Prelude.{◌≡◌, ℕ, suc, ◌==◌, if◌then◌else◌, Option, option_map, Result, Ok, Err, List, length}
use Rattle.sb_calls.specs.Op.{op_of}
use Rattle.sb_calls.specs.declared.op.Op.{Op}
use Rattle.cown_board.specs.Board.{BoardOf, length_of}
use Rattle.sb_frames.specs.Decoding.{decode_result}
use Rattle.sb_frames.specs.declared.fault.FrameFault.{FrameFault}
use Rattle.sb_frames.specs.declared.fault.FrameFault.TheVariants.{BadLength}
use Rattle.sb_frames.specs.declared.frame.Frame.{Frame}
use Rattle.sb_frames.specs.declared.frame.Frame.TheVariants.{Ask, Entry, Ack, Answer, Outcome, Flush, Have}
use Rattle.sb_replica.specs.Log.{LogOf}
use Rattle.sb_replica.specs.Offers.{offer_answer, after_offer, advance_answer}
use Rattle.sb_replica.specs.declared.offered.Offered.{Offered}
use Rattle.sb_replica.specs.declared.offered.Offered.TheVariants as offer
use Rattle.sb_replica.specs.Replica.{ReplicaOf, log_of, with_log}
use Rattle.sb_replica.specs.declared.fault.ReplicaFault.{ReplicaFault}
use Rattle.sb_replica.specs.declared.fault.ReplicaFault.TheVariants as fault
use Rattle.sb_replica.specs.declared.heard.Heard.{Heard}
use Rattle.sb_replica.specs.declared.heard.Heard.TheVariants.{Accepted, Repeat, Gap, Held, Busy, Ignored}

-- the frame that takes all of this many bytes; more bytes after it are a fault
abbrev pub frame_if_whole : ℕ → Result (Frame × ℕ) FrameFault → Result Frame FrameFault
frame_if_whole size (Ok found) = if found.1 == size then Ok found.0 else Err BadLength
frame_if_whole size (Err fault) = Err fault

abbrev pub whole_frame : List ℕ → Result Frame FrameFault
whole_frame bytes = frame_if_whole (length bytes) (decode_result bytes)

-- the answer to an entry with this number, by what the log did with it
abbrev pub entry_answer : ℕ → Offered → Heard
entry_answer number offer.Next = Accepted number
entry_answer number offer.Repeat = Repeat number
entry_answer number (offer.Gap size) = Gap size
entry_answer number (offer.Held held) = Held held
entry_answer number (offer.Busy size) = Busy size

-- the answer to a frame: an entry's as the log gives it; every other one is ignored
abbrev pub frame_answer : BoardOf Op → Frame → Heard
frame_answer board (Ask client request call) = Ignored
frame_answer board (Entry number call) = entry_answer number (offer_answer board number)
frame_answer board (Ack replica size) = Ignored
frame_answer board (Answer number reply) = Ignored
frame_answer board (Outcome client request outcome) = Ignored
frame_answer board Flush = Ignored
frame_answer board (Have replica size) = Ignored

-- the log after a frame: only an entry changes it
abbrev pub after_frame : List (List ℕ) → LogOf → Frame → LogOf
after_frame names log (Ask client request call) = log
after_frame names log (Entry number call) = after_offer log (op_of names call) (offer_answer log.board number)
after_frame names log (Ack replica size) = log
after_frame names log (Answer number reply) = log
after_frame names log (Outcome client request outcome) = log
after_frame names log Flush = log
after_frame names log (Have replica size) = log

-- the answer to the op that is held for the next number, if there is one
abbrev pub next_entry_answer : LogOf → Option Heard
next_entry_answer log = option_map (entry_answer (suc (length_of log.board))) (advance_answer log)

-- the bytes are one whole frame, this is the answer to it, and this is the replica after it
pub record ReceivesBytes {S : Type 0} (old : ReplicaOf S) (bytes : List ℕ)
    (answer : Heard) (new : ReplicaOf S) : Type 0 where
  pub frame : Frame
  pub whole : whole_frame bytes ≡ Ok frame
  pub answer_is : answer ≡ frame_answer old.board frame
  pub after : new ≡ with_log old (after_frame old.names (log_of old) frame)

-- the fault is the frame's, or memory was refused for an entry that would be accepted
abbrev pub IsReplicaFaultOf : {S : Type 0} → ReplicaOf S → List ℕ → ReplicaFault → Type 0
IsReplicaFaultOf replica bytes (fault.BadFrame frame) = whole_frame bytes ≡ Err frame
IsReplicaFaultOf replica bytes fault.OutOfMemory =
    (entry : Frame) × (number : ℕ) × (whole_frame bytes ≡ Ok entry)
    × (frame_answer replica.board entry ≡ Accepted number)
