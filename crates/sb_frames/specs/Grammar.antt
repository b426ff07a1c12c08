-- What a frame is, and how it is spelled.
use Rattle.std.specs.Prelude.{◌≡◌, ℕ, ◌<◌, ◌^◌, List, [], ◌∷◌, ◌++◌, length}
use Rattle.std.specs.Int.{w16, w32, w64, to_be_bytes}
use Rattle.sb_calls.specs.Call.{IsCall}
use Rattle.sb_calls.specs.Replies.{IsReply, integer_field, reply_field}
use Rattle.sb_frames.specs.Fields.{call_field, outcome_field}
use Rattle.sb_frames.specs.declared.frame.AskOutcome.{AskOutcome}
use Rattle.sb_frames.specs.declared.frame.AskOutcome.TheVariants.{Replied, Mismatch, LogFull}
use Rattle.sb_frames.specs.declared.frame.Frame.{Frame}
use Rattle.sb_frames.specs.declared.frame.Frame.TheVariants.{Ask, Entry, Ack, Answer, Outcome, Flush, Have}

-- if the outcome has a reply, it is a valid one
abbrev pub IsOutcome : AskOutcome → Type 0
IsOutcome (Replied reply) = IsReply reply
IsOutcome Mismatch = Unit {0}
IsOutcome LogFull = Unit {0}

-- a frame is valid: its numbers fit their widths, its call is valid, its reply is valid
abbrev pub IsFrame : Frame → Type 0
IsFrame (Ask client request call) = (client < 2 ^ 32) × (request < 2 ^ 32) × IsCall call
IsFrame (Entry number call) = (number < 2 ^ 64) × IsCall call
IsFrame (Ack replica size) = (replica < 2 ^ 8) × (size < 2 ^ 64)
IsFrame (Answer number reply) = (number < 2 ^ 64) × IsReply reply
IsFrame (Outcome client request outcome) = (client < 2 ^ 32) × (request < 2 ^ 32) × IsOutcome outcome
IsFrame Flush = Unit {0}
IsFrame (Have replica size) = (replica < 2 ^ 8) × (size < 2 ^ 64)

-- a frame's body: the tag, then the fields in order
abbrev pub body : Frame → List ℕ
body (Ask client request call) = 1 ∷ (integer_field w32 client ++ (integer_field w32 request ++ call_field call))
body (Entry number call) = 2 ∷ (integer_field w64 number ++ call_field call)
body (Ack replica size) = 3 ∷ replica ∷ integer_field w64 size
body (Answer number reply) = 4 ∷ (integer_field w64 number ++ reply_field reply)
body (Outcome client request outcome) =
    5 ∷ (integer_field w32 client ++ (integer_field w32 request ++ outcome_field outcome))
body Flush = 6 ∷ []
body (Have replica size) = 7 ∷ replica ∷ integer_field w64 size

-- a frame's bytes: the length of the body in two bytes, then the body
unfoldable pub spelling : Frame → List ℕ
spelling frame = to_be_bytes w16 (length (body frame)) ++ body frame

-- the frame is valid, and the bytes are its one spelling
pub record Spells (frame : Frame) (bytes : List ℕ) : Type 0 where
  pub valid : IsFrame frame
  pub spelled : bytes ≡ spelling frame
