-- What is done for clients who are served at once.
use Rattle.std.specs.Prelude.{◌≡◌, ◌≢◌, ◌⊎◌, ◌↔◌, ◌≤◌, ◌<◌, ◌+◌, ℕ, ◌==◌, Bool, false, true, if◌then◌else◌, Option, Some, None, Result, Ok, Err, List, [], ◌∷◌, ◌++◌, length, map, min, IfErr, IfSome, OnOk, slice_get, take}
use Rattle.std.specs.List.{All, Contains, flat_map}
use Rattle.sb_rows.specs.Rows.{Rows}
use Rattle.sb_calls.specs.declared.ask.Key.{Key}
use Rattle.sb_calls.specs.declared.call.Call.{Call}
use Rattle.sb_frames.specs.Grammar.{spelling}
use Rattle.sb_frames.specs.Streaming.{IsShort, StreamState, empty_stream}
use Rattle.sb_frames.specs.declared.fault.FrameFault.TheVariants.{Short}
use Rattle.sb_frames.specs.declared.frame.Frame as wire
use Rattle.sb_sequencer.specs.Numbering.{first_asks}
use Rattle.bank_server.specs.AskCounts.{no_asks}
use Rattle.bank_server.specs.Pending.{ArePendingWithin, pending_ask, unflushed_asks}
use Rattle.bank_server.specs.Session.{IsFromClient, ask_of_frame, asks_in, outcomes_of}
use Rattle.bank_server.specs.SessionFaults.{IsLogFault}
use Rattle.bank_server.specs.SessionResults.{IsFaultAt}
use Rattle.bank_server.specs.declared.node0.ask_counts.AskCounts.{AskCounts}
use Rattle.bank_server.specs.declared.session.client_limits.ClientLimits.{ClientLimits}
use Rattle.bank_server.specs.declared.session.inbox.PendingAsk.{PendingAsk}
use Rattle.bank_server.specs.declared.session.session_fault.SessionFault.{SessionFault}
use Rattle.bank_server.specs.declared.session.session_fault.SessionFault.TheVariants.{Frame, Unexpected, CrewGone, Device, OutOfMemory, Log, TooMany}
use Rattle.bank_server.specs.declared.session.turn_fault.TurnFault.{TurnFault}

-- ---- a client

-- how a client's session ended: with its last byte, or with a fault
abbrev pub End : Type 0
End = Result (Unit {0}) SessionFault

-- a client: its bytes that aren't a whole frame yet; its asks whose outcomes it wasn't given, of
-- which a flush follows the first ones, that are due; the outcomes that its connection hasn't
-- taken; how many asks it had; what bounds it; how it ended; and whether its connection failed
pub record ClientOf : Type 0 where
  pub stream : StreamState
  pub pending : List PendingAsk
  pub due : ℕ
  pub outcomes : List ℕ
  pub counts : AskCounts
  pub limits : ClientLimits
  pub ending : Option End
  pub broken : Bool

-- the limits of clients who join, the clients, and those of them that the last turn told something, or that
-- ended in it
pub record ClientsOf : Type 0 where
  pub limits : ClientLimits
  pub all : List ClientOf
  pub stirred : List ℕ

-- a client before its first byte, within these limits
abbrev pub fresh_client : ClientLimits → ClientOf
fresh_client limits = record {
  stream = empty_stream;
  pending = [];
  due = 0;
  outcomes = [];
  counts = no_asks;
  limits = limits;
  ending = None;
  broken = false;
}

-- this client is before its first byte
abbrev pub IsFreshClient : ClientOf → Type 0
IsFreshClient client = client ≡ fresh_client client.limits

-- in a log of this many calls: its asks have their places there, at most as many wait for a flush as its
-- limits say, and until it ends its stream hasn't failed and few outcomes are unread
pub record IsSound (calls : ℕ) (client : ClientOf) : Type 0 where
  pub within : ArePendingWithin calls client.pending
  pub due : client.due ≤ length client.pending
  pub few_asks : length client.pending ≤ client.due + client.limits.asks
  pub healthy : client.ending ≡ None → client.stream.failed ≡ false
  pub few_unread : client.ending ≡ None → length client.outcomes ≤ client.limits.unread

-- the same between two turns, when nothing is due
pub record IsReady (calls : ℕ) (client : ClientOf) : Type 0 where
  pub sound : IsSound calls client
  pub none_due : client.due ≡ 0

-- ---- what came from clients

-- a piece of what comes from a client: bytes; no bytes, at its end; or None, if its connection fails
abbrev pub Piece : Type 0
Piece = Option (List ℕ)

abbrev pub HasBytes : Piece → Type 0
HasBytes None = ⊥
HasBytes (Some []) = ⊥
HasBytes (Some (byte ∷ bytes)) = Unit {0}

-- what came before the end
abbrev pub bytes_of : List Piece → List ℕ
bytes_of [] = []
bytes_of (None ∷ pieces) = []
bytes_of (Some [] ∷ pieces) = []
bytes_of (Some (byte ∷ bytes) ∷ pieces) = (byte ∷ bytes) ++ bytes_of pieces

-- the pieces that came from one client, in order; each came with its client's number
abbrev pub pieces_of_client : ℕ → List (ℕ × Piece) → List Piece
pieces_of_client client arrivals = flat_map (λ (a : ℕ × Piece). if a.0 == client then a.1 ∷ [] else []) arrivals

-- the frames that were taken from one client, in order; each was taken with its client's number
abbrev pub frames_of_client : ℕ → List (ℕ × wire.Frame) → List wire.Frame
frames_of_client client taken = flat_map (λ (t : ℕ × wire.Frame). if t.0 == client then t.1 ∷ [] else []) taken

-- the asks that were taken from all clients, in order
abbrev pub asks_of_all : List (ℕ × wire.Frame) → List (Key × Call)
asks_of_all taken = flat_map (λ (t : ℕ × wire.Frame). ask_of_frame t.1) taken

-- these frames, each with the number of the client who sent it
abbrev pub with_number : ℕ → List wire.Frame → List (ℕ × wire.Frame)
with_number client frames = map (λ frame. (client, frame)) frames

-- frames were taken as they came: with each arrival some of its own client's, or none
abbrev pub AreTakenInOrder : List (ℕ × Piece) → List (ℕ × wire.Frame) → Type 0
AreTakenInOrder [] taken = taken ≡ []
AreTakenInOrder (arrival ∷ arrivals) taken = (frames : List wire.Frame) × (later : List (ℕ × wire.Frame))
    × (taken ≡ with_number arrival.0 frames ++ later) × AreTakenInOrder arrivals later

-- ---- what one client is given

-- what came from a client, the frames that were taken from it, and the outcomes that its connection
-- took
pub record PastOf : Type 0 where
  pub pieces : List Piece
  pub frames : List wire.Frame
  pub sent : List ℕ

-- a client of which nothing came
abbrev pub no_past : PastOf
no_past = record { pieces = []; frames = []; sent = [] }

-- at some time more outcomes were unread than this
abbrev pub HadManyUnread : ℕ → List ℕ → List ℕ → Type 0
HadManyUnread most sent outcomes = (before : List ℕ) × (since : List ℕ) × (sent ≡ before ++ since)
    × (most < length (since ++ outcomes))

-- what is left behind the frames of a client that ended so, or goes on
abbrev pub IsLeft : Option End → PastOf → ClientOf → List ℕ → Type 0
-- less than a frame, as far as it came
IsLeft None past client rest = All HasBytes past.pieces × (rest ≡ client.stream.unread) × IsShort client.stream
-- nothing, and the end came
IsLeft (Some (Ok done)) past client rest = (rest ≡ []) × Contains past.pieces (Some [])
-- bytes that no frame begins with, whatever follows; or less than a frame, and the end came
IsLeft (Some (Err (Frame fault))) past client rest = IsFaultAt (Frame fault) rest
    × ((fault ≢ Short) ⊎ Contains past.pieces (Some []))
IsLeft (Some (Err Unexpected)) past client rest = IsFaultAt Unexpected rest
-- one ask more than may wait for a flush
IsLeft (Some (Err TooMany)) past client rest = IsFaultAt TooMany rest
    × (length (unflushed_asks past.frames) ≡ client.limits.asks)
-- the connection failed, or too many outcomes were unread
IsLeft (Some (Err Device)) past client rest =
    Contains past.pieces None ⊎ HadManyUnread client.limits.unread past.sent client.outcomes
IsLeft (Some (Err CrewGone)) past client rest = ⊥
IsLeft (Some (Err OutOfMemory)) past client rest = ⊥
IsLeft (Some (Err (Log fault))) past client rest = ⊥

-- its frames were taken from what came, and the rest is what its end, if any, leaves; and its
-- connection failed if that came too
pub record IsHeard (past : PastOf) (client : ClientOf) : Type 0 where
  pub rest : List ℕ
  pub bytes_are : bytes_of past.pieces ≡ flat_map spelling past.frames ++ rest
  pub left : IsLeft client.ending past client rest
  pub failed : (client.broken ≡ true) ↔ Contains past.pieces None

-- in the log of these asks of all clients: its frames are asks and flushes, and it was given
-- exactly the outcomes of its own asks that a flush of its own follows, as in a session; its other
-- asks wait
pub record IsServed (opening : Rows) (asks log : List (Key × Call)) (past : PastOf) (client : ClientOf)
    : Type 0 where
  pub clients : All IsFromClient past.frames
  pub among : All (Contains asks) (asks_in past.frames)
  pub given : past.sent ++ client.outcomes ≡ flat_map spelling (outcomes_of opening log past.frames)
  pub waiting : client.pending ≡ map (pending_ask log) (unflushed_asks past.frames)
  pub none_due : client.due ≡ 0
  pub heard : IsHeard past client

-- ---- what all clients are given

-- the log is that of these asks, and each client, of which this is past, is served by it
pub record AreServed (Served : List (Key × Call) → List (Key × Call) → PastOf → ClientOf → Type 0)
    (asks : List (Key × Call)) (past : ℕ → PastOf) (log : List (Key × Call)) (clients : List ClientOf)
    : Type 0 where
  pub log_is : log ≡ first_asks asks
  pub each : (i : ℕ) → IfSome (slice_get clients i) (λ client. Served asks log (past i) client)

-- the past of each client after these arrivals, with these frames taken
abbrev pub past_after : (ℕ → PastOf) → List (ℕ × Piece) → List (ℕ × wire.Frame) → ℕ → PastOf
past_after past arrivals taken i = record {
  pieces = (past i).pieces ++ pieces_of_client i arrivals;
  frames = (past i).frames ++ frames_of_client i taken;
  sent = (past i).sent;
}

-- the past of each client, if this is past of one of them now
abbrev pub past_with : ℕ → PastOf → (ℕ → PastOf) → ℕ → PastOf
past_with place now past i = if place == i then now else past i

-- and if its connection took these bytes
abbrev pub sends : ℕ → List ℕ → (ℕ → PastOf) → ℕ → PastOf
sends place bytes past = past_with place (record (past place) { sent = (past place).sent ++ bytes }) past

-- clients that were ready for a turn are, in a log of any length
abbrev pub StaysReady : List ClientOf → List ClientOf → Type 0
StaysReady old new = (calls : ℕ) → All (λ client. IsReady calls client) old → All (λ client. IsReady calls client) new

-- clients that were served are, if the past of each changes so
abbrev pub StaysServed : ((ℕ → PastOf) → ℕ → PastOf) → List ClientOf → List ClientOf → Type 0
StaysServed change old new = (opening : Rows) (asks log : List (Key × Call)) (past : ℕ → PastOf)
    → AreServed (IsServed opening) asks past log old → AreServed (IsServed opening) asks (change past) log new

-- whatever was asked before, and whatever is past of each client: frames are taken from the
-- clients that are there, in the order of arrival; the log becomes that of all asks before and then
-- those taken; and each client stays served, by that log and its own frames
abbrev pub TakesArrivals : (List (Key × Call) → List (Key × Call) → PastOf → ClientOf → Type 0)
    → List (Key × Call) → List ClientOf → List (ℕ × Piece) → List (Key × Call) → List ClientOf → Type 0
TakesArrivals Served old_log old arrivals new_log new =
    (asks : List (Key × Call)) (past : ℕ → PastOf) → AreServed Served asks past old_log old
    → (taken : List (ℕ × wire.Frame)) × AreTakenInOrder arrivals taken × All (λ t. t.0 < length new) taken
    × AreServed Served (asks ++ asks_of_all taken) (past_after past arrivals taken) new_log new

-- known arrivals were taken from the front, in this order
abbrev pub TakesFromFront : Option (List (ℕ × Piece)) → Option (List (ℕ × Piece)) → List (ℕ × Piece) → Type 0
TakesFromFront None new arrivals = Unit {0}
TakesFromFront (Some coming) None arrivals = ⊥
TakesFromFront (Some coming) (Some left) arrivals = coming ≡ arrivals ++ left

-- this many more of those that have come by now were taken, if it is known how many have
abbrev pub TakesOfThem : ℕ → Option ℕ → Option ℕ → Type 0
TakesOfThem count None left = Unit {0}
TakesOfThem count (Some here) None = ⊥
TakesOfThem count (Some here) (Some left) = here ≡ count + left

-- a turn takes arrivals from the front: all that have come by now, or as many as there are clients
pub record ServesTurn (Served : List (Key × Call) → List (Key × Call) → PastOf → ClientOf → Type 0)
    (coming left : Option (List (ℕ × Piece))) (here : Option ℕ)
    (old_log : List (Key × Call)) (old : List ClientOf) (new_log : List (Key × Call)) (new : List ClientOf)
    : Type 0 where
  pub arrivals : List (ℕ × Piece)
  pub came : TakesFromFront coming left arrivals
  pub all : IfSome here (λ count. length arrivals ≡ min count (length old))
  pub taken : TakesArrivals Served old_log old arrivals new_log new

-- a turn that failed took arrivals from the front too, and numbered asks of frames that came, the last of
-- them of whichever client; so the log is that of these asks
pub record StopsTurn (opening : Rows) (coming left : Option (List (ℕ × Piece)))
    (old_log : List (Key × Call)) (old : List ClientOf) (new_log : List (Key × Call)) : Type 0 where
  pub arrivals : List (ℕ × Piece)
  pub came : TakesFromFront coming left arrivals
  pub numbered : (asks : List (Key × Call)) (past : ℕ → PastOf)
      → AreServed (IsServed opening) asks past old_log old → (taken : List (ℕ × wire.Frame))
      × All (λ t. IsFromClient t.1) taken × (new_log ≡ first_asks (asks ++ asks_of_all taken))
      × ((i : ℕ) → IfSome (slice_get old i) (λ client. (rest : List ℕ)
      × (bytes_of ((past i).pieces ++ pieces_of_client i arrivals)
      ≡ flat_map spelling ((past i).frames ++ frames_of_client i taken) ++ rest)))

-- a client was given nothing, and didn't end
abbrev pub IsCalm : Option ClientOf → Option ClientOf → Type 0
IsCalm None None = Unit {0}
IsCalm None (Some new) = ⊥
IsCalm (Some old) None = ⊥
IsCalm (Some old) (Some new) = (new.outcomes ≡ old.outcomes) × (new.ending ≡ old.ending) × (new.due ≡ 0)

-- no client outside this list was given anything, or ended
abbrev pub AreCalmBut : List ℕ → List ClientOf → List ClientOf → Type 0
AreCalmBut stirred old new = (i : ℕ) → IsCalm (slice_get old i) (slice_get new i) ⊎ Contains stirred i

-- what goes out to clients: what their connections took, in order, if that is known, each with its
-- place; and which of them took less than they were given the last time
pub record OutgoingOf : Type 0 where
  pub sent : Option (List (ℕ × List ℕ))
  pub full : ℕ → Bool

-- no client was given anything: each has the outcomes that it had
abbrev pub AreUntold : List ClientOf → List ClientOf → Type 0
AreUntold old new = map (λ client. client.outcomes) new ≡ map (λ client. client.outcomes) old

-- what a turn leaves: what goes out, and as many clients; if it ended well, the whole log is kept
-- unless nobody was stirred, and nobody else was given anything, or ended; and if the log can't be
-- kept, nobody was given anything
pub record TurnLeaves (result : Result (Unit {0}) TurnFault) (outgoing_before outgoing_after : OutgoingOf)
    (Kept : Type 0) (old : List ClientOf) (new : ClientsOf) : Type 0 where
  pub outgoing : outgoing_after ≡ outgoing_before
  pub as_many : length new.all ≡ length old
  pub stirred : OnOk result (Kept ⊎ (new.stirred ≡ []))
  pub calm : OnOk result (AreCalmBut new.stirred old new.all)
  pub untold : IfErr result (λ fault. IsLogFault fault → AreUntold old new.all)

-- the bytes of a read at the front of a chunk, or none if it failed
abbrev pub piece_of : List ℕ → Option ℕ → Piece
piece_of chunk None = None
piece_of chunk (Some count) = Some (take count chunk)
