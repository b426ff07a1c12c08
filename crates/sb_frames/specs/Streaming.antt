-- A stream of frames: what one call does to it, and what many calls do.
use Rattle.std.specs.Prelude.{◌≡◌, ◌≢◌, ℕ, ◌<◌, Bool, true, false, if◌then◌else◌, Option, Some, None, Result, Ok, Err, List, [], ◌∷◌, ◌++◌, drop}
use Rattle.std.specs.List.{All, flat_map}
use Rattle.sb_frames.specs.Decoding.{decode_result}
use Rattle.sb_frames.specs.Grammar.{IsFrame, Spells, spelling}
use Rattle.sb_frames.specs.declared.fault.FrameFault.{FrameFault}
use Rattle.sb_frames.specs.declared.fault.FrameFault.TheVariants.{Short}
use Rattle.sb_frames.specs.declared.fault.StreamFault.{StreamFault}
use Rattle.sb_frames.specs.declared.fault.StreamFault.TheVariants.{Bad, Failed, OutOfMemory}
use Rattle.sb_frames.specs.declared.frame.Frame.{Frame}

-- a stream: the bytes that were fed and not yet read as frames, and whether a frame was faulty
pub record StreamState : Type 0 where
  pub unread : List ℕ
  pub failed : Bool

-- a stream before any call
abbrev pub empty_stream : StreamState
empty_stream = record { unread = []; failed = false }

-- a call of a stream, with its answer; an entry that `skip_entry` skips counts as the frame that
-- `next` would hand out
pub data StreamCall : Type 0 where
  Feed : (bytes : List ℕ) (answer : Result (Unit {0}) StreamFault) → StreamCall
  Next : (answer : Result (Option Frame) StreamFault) → StreamCall

-- numbers from 0 to 255
abbrev pub AreBytes : List ℕ → Type 0
AreBytes bytes = All (λ byte. byte < 256) bytes

-- ---- what a call does

-- what feeding bytes may answer, and the stream after it
abbrev pub Feeds : StreamState → List ℕ → Result (Unit {0}) StreamFault → StreamState → Type 0
-- the bytes are appended
Feeds old bytes (Ok done) new = (old.failed ≡ false) × (new ≡ record { unread = old.unread ++ bytes; failed = false })
-- a failed stream takes no bytes
Feeds old bytes (Err Failed) new = (old.failed ≡ true) × (new ≡ old)
-- memory may be refused
Feeds old bytes (Err OutOfMemory) new = (old.failed ≡ false) × (new ≡ old)
Feeds old bytes (Err (Bad fault)) new = ⊥

-- the next frame, from the decoding of the unread bytes, and the stream after it
abbrev pub next_by : Result (Frame × ℕ) FrameFault → List ℕ → Result (Option Frame) StreamFault × StreamState
next_by (Ok found) unread = (Ok (Some found.0), record { unread = drop found.1 unread; failed = false })
-- less than a whole frame is there so far
next_by (Err Short) unread = (Ok None, record { unread = unread; failed = false })
-- no frame begins with these bytes: the stream has failed from then on
next_by (Err fault) unread = (Err (Bad fault), record { unread = unread; failed = true })

-- the answer to a call for the next frame, and the stream after it
abbrev pub next_of : StreamState → Result (Option Frame) StreamFault × StreamState
next_of old = if old.failed then (Err Failed, old) else next_by (decode_result old.unread) old.unread

-- the frame is handed out, and the bytes passed over are its spelling
pub record HandsOutFrame (old : StreamState) (frame : Frame) (new : StreamState) : Type 0 where
  pub valid : IsFrame frame
  pub spelled : (bytes : List ℕ) × Spells frame bytes × (old.unread ≡ bytes ++ new.unread)
  pub not_failed : new.failed ≡ false

-- less than a whole frame is unread
abbrev pub IsShort : StreamState → Type 0
IsShort state = (state.failed ≡ false) × (decode_result state.unread ≡ Err Short)

-- the reason why no frame is handed out
abbrev pub FailsBy : StreamState → StreamFault → Type 0
-- no frame begins with the unread bytes, whatever follows them
FailsBy old (Bad fault) = (old.failed ≡ false) × (decode_result old.unread ≡ Err fault) × (fault ≢ Short)
-- an earlier frame was faulty
FailsBy old Failed = old.failed ≡ true
FailsBy old OutOfMemory = ⊥

-- the effect of one call; fed values are bytes
abbrev pub Step : StreamState → StreamCall → StreamState → Type 0
Step old (Feed bytes answer) new = AreBytes bytes × Feeds old bytes answer new
Step old (Next answer) new = (answer, new) ≡ next_of old

-- ---- what many calls do

-- these calls one after another
abbrev pub StepsTo : StreamState → List StreamCall → StreamState → Type 0
StepsTo old [] new = new ≡ old
StepsTo old (call ∷ calls) new = (mid : StreamState) × Step old call mid × StepsTo mid calls new

-- the bytes that a call put into the stream
abbrev pub bytes_taken : StreamCall → List ℕ
bytes_taken (Feed bytes (Ok done)) = bytes
bytes_taken (Feed bytes (Err fault)) = []
bytes_taken (Next answer) = []

-- the frames that a call handed out
abbrev pub frames_given : StreamCall → List Frame
frames_given (Feed bytes answer) = []
frames_given (Next (Ok (Some frame))) = frame ∷ []
frames_given (Next (Ok None)) = []
frames_given (Next (Err fault)) = []

-- whatever the calls were and however the bytes were cut: the bytes that went in are the spellings
-- of the frames that came out, in order, and then the unread bytes
abbrev pub FramesOfBytes : Type 0
FramesOfBytes = (calls : List StreamCall) (end : StreamState) → StepsTo empty_stream calls end
    → let given = flat_map frames_given calls in
    All IsFrame given × (flat_map bytes_taken calls ≡ flat_map spelling given ++ end.unread)
