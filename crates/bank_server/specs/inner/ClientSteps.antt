-- How a client goes from state to state.
use Rattle.std.specs.Prelude.{◌≡◌, ◌≢◌, ℕ, ◌+◌, List, ◌++◌, length, map}
use Rattle.std.specs.List.{All, Contains, flat_map}
use Rattle.sb_rows.specs.Rows.{Rows}
use Rattle.sb_calls.specs.declared.ask.Key.{Key}
use Rattle.sb_calls.specs.declared.call.Call.{Call}
use Rattle.sb_frames.specs.Grammar.{spelling}
use Rattle.sb_frames.specs.declared.fault.FrameFault.TheVariants.{Short}
use Rattle.sb_frames.specs.declared.frame.Frame as frames
use Rattle.sb_sequencer.specs.Numbering.{first_asks}
use Rattle.bank_server.specs.Pending.{pending_ask, unflushed_asks}
use Rattle.bank_server.specs.Session.{IsAskFrame, IsFromClient, asks_in, flushed_asks, outcome_of}
use Rattle.bank_server.specs.SessionResults.{IsFaultAt}
use Rattle.bank_server.specs.declared.session.inbox.Inbox.{Inbox}
use Rattle.bank_server.specs.declared.session.inbox.PendingAsk.{PendingAsk}
use Rattle.bank_server.specs.declared.session.session_fault.SessionFault.{SessionFault}
use Rattle.bank_server.specs.declared.session.session_fault.SessionFault.TheVariants.{Frame, Unexpected, CrewGone, Device, OutOfMemory, Log, TooMany}

-- the log, a client's asks whose outcomes it wasn't given, how many of them a flush follows, and the
-- outcomes that its connection hasn't taken
pub record ClientState : Type 0 where
  pub log : List (Key × Call)
  pub pending : List PendingAsk
  pub due : ℕ
  pub outcomes : List ℕ

abbrev pub inbox_state : List (Key × Call) → Inbox → List ℕ → ClientState
inbox_state log inbox outcomes =
    record { log = log; pending = inbox.pending.items; due = inbox.due; outcomes = outcomes }

-- these frames of a client led there, in the log of these asks of all clients, its own among them
pub record ReachesClient (opening : Rows) (asks : List (Key × Call)) (sent : List ℕ) (frames : List frames.Frame)
    (at : ClientState) : Type 0 where
  pub clients : All IsFromClient frames
  pub among : All (Contains asks) (asks_in frames)
  pub log_is : at.log ≡ first_asks asks
  pub told : List (Key × Call)
  pub waiting : List (Key × Call)
  pub flushed_are : flushed_asks frames ≡ told ++ waiting
  pub pending_are : at.pending ≡ map (pending_ask at.log) (waiting ++ unflushed_asks frames)
  pub due_is : at.due ≡ length waiting
  pub given : sent ++ at.outcomes ≡ flat_map spelling (flat_map (outcome_of opening at.log) told)

-- whatever asks of all clients, and whatever frames of this one, led to the old state, these frames
-- more lead it to the new one, and their asks come last of all
abbrev pub LeadsClient : Rows → ClientState → List frames.Frame → ClientState → Type 0
LeadsClient opening old more new = (asks : List (Key × Call)) (sent : List ℕ) (frames : List frames.Frame)
    → ReachesClient opening asks sent frames old
    → ReachesClient opening (asks ++ asks_in more) sent (frames ++ more) new

-- these unread bytes spell frames that led the client to the new state, and then the bytes that are
-- unread there
pub record HandlesClient (opening : Rows) (old : ClientState) (unread : List ℕ) (new : ClientState)
    (left : List ℕ) : Type 0 where
  pub more : List frames.Frame
  pub read : unread ≡ flat_map spelling more ++ left
  pub leads : LeadsClient opening old more new

-- what a fault of a client's frames says where it comes: bytes that no frame begins with aren't only
-- too short, and an ask is one too many only if this many wait for a flush
abbrev pub IsFaultOfFrames : ℕ → SessionFault → ClientState → Type 0
IsFaultOfFrames most (Frame fault) at = fault ≢ Short
IsFaultOfFrames most Unexpected at = Unit {0}
IsFaultOfFrames most CrewGone at = ⊥
IsFaultOfFrames most Device at = ⊥
IsFaultOfFrames most OutOfMemory at = Unit {0}
IsFaultOfFrames most (Log fault) at = ⊥
IsFaultOfFrames most TooMany at = length at.pending ≡ at.due + most

-- some of the unread bytes spell frames that led the client to the new state, and the fault came
-- there, whatever bytes follow
pub record StopsClient (opening : Rows) (most : ℕ) (old : ClientState) (unread : List ℕ) (fault : SessionFault)
    (new : ClientState) : Type 0 where
  pub rest : List ℕ
  pub handles : HandlesClient opening old unread new rest
  pub at : (behind : List ℕ) → IsFaultAt fault (rest ++ behind)
  pub of_frames : IsFaultOfFrames most fault new

-- why a frame is refused: no client sends it, it is one ask too many, or memory was refused
abbrev pub IsFrameRefusal : ℕ → frames.Frame → SessionFault → ClientState → Type 0
IsFrameRefusal most frame (Frame fault) at = ⊥
IsFrameRefusal most frame Unexpected at = ¬ IsFromClient frame
IsFrameRefusal most frame CrewGone at = ⊥
IsFrameRefusal most frame Device at = ⊥
IsFrameRefusal most frame OutOfMemory at = Unit {0}
IsFrameRefusal most frame (Log fault) at = ⊥
IsFrameRefusal most frame TooMany at = IsAskFrame frame × (length at.pending ≡ at.due + most)

-- a frame that is refused changes nothing
abbrev pub RefusesClientFrame : ℕ → frames.Frame → SessionFault → ClientState → ClientState → Type 0
RefusesClientFrame most frame fault old new = IsFrameRefusal most frame fault old × (new ≡ old)

-- a client is told what is due: whatever led to the old state led to the new one
abbrev pub TellsDue : Rows → ClientState → ClientState → Type 0
TellsDue opening old new = (asks : List (Key × Call)) (sent : List ℕ) (frames : List frames.Frame)
    → ReachesClient opening asks sent frames old → ReachesClient opening asks sent frames new
