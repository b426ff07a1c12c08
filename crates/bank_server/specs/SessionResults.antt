-- What a session leaves: the log, and its output.
use Rattle.std.specs.Prelude.{◌≡◌, ◌≢◌, ℕ, Option, Err, List, [], ◌++◌, length}
use Rattle.std.specs.Io.KnownBytes.{Appends}
use Rattle.std.specs.List.{All, flat_map}
use Rattle.sb_rows.specs.Rows.{Rows}
use Rattle.sb_calls.specs.declared.ask.Key.{Key}
use Rattle.sb_calls.specs.declared.call.Call.{Call}
use Rattle.sb_frames.specs.Decoding.{decode_result}
use Rattle.sb_frames.specs.Grammar.{IsFrame, spelling}
use Rattle.sb_frames.specs.declared.frame.Frame as frames
use Rattle.bank_server.specs.Pending.{unflushed_asks}
use Rattle.bank_server.specs.Session.{IsAskFrame, IsFromClient, log_of_session, outcomes_of}
use Rattle.bank_server.specs.declared.session.session_fault.SessionFault.{SessionFault}
use Rattle.bank_server.specs.declared.session.session_fault.SessionFault.TheVariants.{Frame, Unexpected, CrewGone, Device, OutOfMemory, Log, TooMany}

-- the log is that of a session of these frames, and the output is the spelling of their outcomes
pub record WritesOutcomes (opening : Rows) (before : List (Key × Call)) (frames : List frames.Frame)
    (log : List (Key × Call)) (old new : Option (List ℕ)) : Type 0 where
  pub log_is : log ≡ log_of_session before frames
  pub written : Appends old new (flat_map spelling (outcomes_of opening log frames))

-- the input was whole frames, each an ask or a flush, and the log and the output are theirs
pub record ServesSession (opening : Rows) (before log : List (Key × Call)) (old new : Option (List ℕ)) (input : List ℕ)
    : Type 0 where
  pub frames : List frames.Frame
  pub clients : All IsFromClient frames
  pub input_is : input ≡ flat_map spelling frames
  pub outcomes : WritesOutcomes opening before frames log old new

-- what a fault says of the bytes after the frames that were taken
abbrev pub IsFaultAt : SessionFault → List ℕ → Type 0
-- no frame begins these bytes; if they are too short for one, they are the last, and there are some
IsFaultAt (Frame fault) rest = (decode_result rest ≡ Err fault) × (rest ≢ [])
-- they begin with a frame that no client sends
IsFaultAt Unexpected rest = (frame : frames.Frame) × (behind : List ℕ)
    × IsFrame frame × (¬ IsFromClient frame) × (rest ≡ spelling frame ++ behind)
IsFaultAt CrewGone rest = Unit {0}
IsFaultAt Device rest = Unit {0}
IsFaultAt OutOfMemory rest = Unit {0}
IsFaultAt (Log fault) rest = Unit {0}
-- they begin with one ask more
IsFaultAt TooMany rest = (frame : frames.Frame) × (behind : List ℕ)
    × IsFrame frame × IsAskFrame frame × (rest ≡ spelling frame ++ behind)

-- after a fault of what the client sent, the log and the output are those of the frames before it;
-- after any other fault only the log is
abbrev pub WritesOutcomesBefore : SessionFault → Rows → List (Key × Call) → List frames.Frame
    → List (Key × Call) → Option (List ℕ) → Option (List ℕ) → Type 0
WritesOutcomesBefore (Frame fault) opening before frames log old new = WritesOutcomes opening before frames log old new
WritesOutcomesBefore Unexpected opening before frames log old new = WritesOutcomes opening before frames log old new
WritesOutcomesBefore CrewGone opening before frames log old new = log ≡ log_of_session before frames
WritesOutcomesBefore Device opening before frames log old new = log ≡ log_of_session before frames
WritesOutcomesBefore OutOfMemory opening before frames log old new = log ≡ log_of_session before frames
WritesOutcomesBefore (Log fault) opening before frames log old new = log ≡ log_of_session before frames
WritesOutcomesBefore TooMany opening before frames log old new = WritesOutcomes opening before frames log old new

-- the input began with these frames, each an ask or a flush, and the fault came after them
pub record ServesUntilFault (opening : Rows) (before log : List (Key × Call))
    (old new : Option (List ℕ)) (input : List ℕ)
    (fault : SessionFault) : Type 0 where
  pub frames : List frames.Frame
  pub clients : All IsFromClient frames
  pub rest : List ℕ
  pub input_is : input ≡ flat_map spelling frames ++ rest
  pub at : IsFaultAt fault rest
  -- after TooMany exactly this many of their asks wait for a flush
  pub many : fault ≡ TooMany → length (unflushed_asks frames) ≡ 2000000
  pub outcomes : WritesOutcomesBefore fault opening before frames log old new
