-- What a replica receives from a stream of frames, one after another.
use Rattle.std.specs.Prelude.{◌≡◌, ◌≢◌, ℕ, true, Some, Result, Ok, Err}
use Rattle.sb_calls.specs.declared.op.Op.{Op}
use Rattle.cown_board.specs.Board.{BoardOf, unfinished_of}
use Rattle.cown_board.specs.declared.board.TheConstants.{OPEN_BEHAVIOURS}
use Rattle.sb_frames.specs.Grammar.{spelling}
use Rattle.sb_frames.specs.Streaming.{StreamState, IsShort, FailsBy, next_of}
use Rattle.sb_frames.specs.declared.frame.Frame.{Frame}
use Rattle.sb_frames.specs.declared.frame.Frame.TheVariants as frames
use Rattle.sb_replica.specs.Frames.{ReceivesBytes, frame_answer}
use Rattle.sb_replica.specs.Replica.{ReplicaOf}
use Rattle.sb_replica.specs.declared.fault.ReceiveFault.{ReceiveFault}
use Rattle.sb_replica.specs.declared.fault.ReceiveFault.TheVariants as fault
use Rattle.sb_replica.specs.declared.heard.Heard.{Heard}
use Rattle.sb_replica.specs.declared.heard.Heard.TheVariants as heard
use Rattle.sb_replica.specs.declared.received.Received.{Received}
use Rattle.sb_replica.specs.declared.received.Received.TheVariants.{Entry, Other, Short, Busy}

abbrev pub IsEntry : Frame → Type 0
IsEntry (frames.Ask client request call) = ⊥
IsEntry (frames.Entry number call) = Unit {0}
IsEntry (frames.Ack replica size) = ⊥
IsEntry (frames.Answer number reply) = ⊥
IsEntry (frames.Outcome client request outcome) = ⊥
IsEntry frames.Flush = ⊥
IsEntry (frames.Have replica size) = ⊥

-- the stream handed out its next frame, and the replica received it as the bytes that spell it
pub record ReceivesNext {S : Type 0} (old : ReplicaOf S) (from : StreamState) (frame : Frame) (answer : Heard)
    (new : ReplicaOf S) (rest : StreamState) : Type 0 where
  pub next : next_of from ≡ (Ok (Some frame), rest)
  pub received : ReceivesBytes old (spelling frame) answer new

-- the next frame of the stream is an entry that the board would accept
pub record HasNext (board : BoardOf Op) (stream : StreamState) : Type 0 where
  pub frame : Frame
  pub after : StreamState
  pub next : next_of stream ≡ (Ok (Some frame), after)
  pub number : ℕ
  pub answer : frame_answer board frame ≡ heard.Accepted number

-- what comes next in a stream was received, or why nothing was; but for what was received, and for a
-- stream that fails, nothing changed
abbrev pub Receives : {S : Type 0} → ReplicaOf S → StreamState → Result Received ReceiveFault
    → ReplicaOf S → StreamState → Type 0
-- an entry; it isn't answered `Busy`, so it isn't lost
Receives old from (Ok (Entry answer)) new rest =
    (frame : Frame) × IsEntry frame × ((size : ℕ) → answer ≢ heard.Busy size)
    × ReceivesNext old from frame answer new rest
-- another frame, which is ignored
Receives old from (Ok (Other frame)) new rest = (¬ IsEntry frame) × ReceivesNext old from frame heard.Ignored new rest
-- less than a whole frame is unread
Receives old from (Ok Short) new rest = IsShort from × (new ≡ old) × (rest ≡ from)
-- no entry could be accepted
Receives old from (Ok Busy) new rest = (unfinished_of old.board ≡ OPEN_BEHAVIOURS) × (new ≡ old) × (rest ≡ from)
-- the stream fails here
Receives old from (Err (fault.Stream failed)) new rest =
    FailsBy from failed × (new ≡ old) × (rest ≡ record from { failed = true })
-- memory was refused for the next entry, which still stands in the stream
Receives old from (Err fault.OutOfMemory) new rest = HasNext old.board from × (new ≡ old) × (rest ≡ from)
