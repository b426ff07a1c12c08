-- How bytes are decoded: the first frame and the number of bytes it takes, or the fault.
use Rattle.std.specs.Prelude.{ℕ, ◌+◌, ◌-◌, nat_lt, ◌==◌, ◌||◌, if◌then◌else◌, Result, Ok, Err, List, length, take, drop}
use Rattle.std.specs.Int.{w16, w32, w64, from_be_bytes}
use Rattle.sb_frames.specs.Calls.{call_at}
use Rattle.sb_frames.specs.Outcomes.{reply_at, outcome_at}
use Rattle.sb_frames.specs.Reading.{◌>>=◌, byte_at, unsigned_at}
use Rattle.sb_frames.specs.declared.fault.FrameFault.{FrameFault}
use Rattle.sb_frames.specs.declared.fault.FrameFault.TheVariants.{Short, BadLength, UnknownTag}
use Rattle.sb_frames.specs.declared.frame.Frame.{Frame}
use Rattle.sb_frames.specs.declared.frame.Frame.TheVariants.{Ask, Entry, Ack, Answer, Outcome, Flush, Have}
use Rattle.sb_frames.specs.declared.frame.TheConstants.{MAX_BODY}

-- ---- the fields of each frame

unfoldable pub ask_at : List ℕ → Result (Frame × List ℕ) FrameFault
ask_at bytes = do
  client ← unsigned_at w32 bytes
  request ← unsigned_at w32 client.1
  call ← call_at request.1
  Ok (Ask client.0 request.0 call.0, call.1)

unfoldable pub entry_at : List ℕ → Result (Frame × List ℕ) FrameFault
entry_at bytes = do
  number ← unsigned_at w64 bytes
  call ← call_at number.1
  Ok (Entry number.0 call.0, call.1)

-- a frame with a replica's number and a length
unfoldable pub replica_and_length_at : (ℕ → ℕ → Frame) → List ℕ → Result (Frame × List ℕ) FrameFault
replica_and_length_at frame bytes = do
  replica ← byte_at bytes
  size ← unsigned_at w64 replica.1
  Ok (frame replica.0 size.0, size.1)

unfoldable pub answer_at : List ℕ → Result (Frame × List ℕ) FrameFault
answer_at bytes = do
  number ← unsigned_at w64 bytes
  reply ← reply_at number.1
  Ok (Answer number.0 reply.0, reply.1)

unfoldable pub outcome_frame_at : List ℕ → Result (Frame × List ℕ) FrameFault
outcome_frame_at bytes = do
  client ← unsigned_at w32 bytes
  request ← unsigned_at w32 client.1
  outcome ← outcome_at request.1
  Ok (Outcome client.0 request.0 outcome.0, outcome.1)

-- ---- the body, and the length before it

-- the fields after a tag
abbrev pub frame_of_tag : ℕ → List ℕ → Result (Frame × List ℕ) FrameFault
frame_of_tag tag bytes =
    if tag == 1 then ask_at bytes
    else if tag == 2 then entry_at bytes
    else if tag == 3 then replica_and_length_at Ack bytes
    else if tag == 4 then answer_at bytes
    else if tag == 5 then outcome_frame_at bytes
    else if tag == 6 then Ok (Flush, bytes)
    else if tag == 7 then replica_and_length_at Have bytes
    else Err UnknownTag

-- a tag and its fields
unfoldable pub tagged_at : List ℕ → Result (Frame × List ℕ) FrameFault
tagged_at bytes = do
  tag ← byte_at bytes
  frame_of_tag tag.0 tag.1

-- a whole body: nothing follows the fields
unfoldable pub frame_of : List ℕ → Result Frame FrameFault
frame_of bytes = do
  frame ← tagged_at bytes
  if length frame.1 == 0 then Ok frame.0 else Err BadLength

-- the body length that the first two bytes state
unfoldable pub stated_length : List ℕ → ℕ
stated_length bytes = from_be_bytes w16 (take 2 bytes)

-- the number of bytes of the frame at the front, by the body length that they state
unfoldable pub frame_size : List ℕ → Result ℕ FrameFault
frame_size bytes =
    if nat_lt (length bytes) 2 then Err Short
    else if (stated_length bytes == 0) || nat_lt MAX_BODY (stated_length bytes) then Err BadLength
    else if nat_lt (length bytes) (2 + stated_length bytes) then Err Short
    else Ok (2 + stated_length bytes)

-- the frame at the front of the bytes, and the number of bytes it takes, or the first fault
unfoldable pub decode_result : List ℕ → Result (Frame × ℕ) FrameFault
decode_result bytes = do
  size ← frame_size bytes
  frame ← frame_of (take (size - 2) (drop 2 bytes))
  Ok (frame, size)
