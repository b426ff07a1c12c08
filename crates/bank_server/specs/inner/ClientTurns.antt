-- Clients within a turn, when outcomes may be due.
use Rattle.std.specs.Prelude.{◌≡◌, ◌⊎◌, ◌<◌, ℕ, Bool, Option, Some, None, Ok, Err, List, ◌∷◌, [], ◌++◌, length, IfSome, slice_get}
use Rattle.std.specs.List.{All, Contains, flat_map}
use Rattle.sb_rows.specs.Rows.{Rows}
use Rattle.sb_calls.specs.declared.ask.Key.{Key}
use Rattle.sb_calls.specs.declared.call.Call.{Call}
use Rattle.sb_frames.specs.Grammar.{spelling}
use Rattle.sb_frames.specs.declared.fault.FrameFault.TheVariants.{Short}
use Rattle.sb_frames.specs.declared.frame.Frame as wire
use Rattle.sb_sequencer.specs.Numbering.{first_asks}
use Rattle.bank_server.specs.Clients.{AreServed, ClientOf, End, IsHeard, PastOf, Piece, TakesArrivals, TakesFromFront, TakesOfThem, asks_of_all, bytes_of, frames_of_client, pieces_of_client}
use Rattle.bank_server.specs.Session.{IsFromClient, asks_in}
use Rattle.bank_server.specs.declared.node0.ask_counts.AskCounts.{AskCounts}
use Rattle.bank_server.specs.declared.session.client_limits.ClientLimits.{ClientLimits}
use Rattle.bank_server.specs.declared.session.inbox.Inbox.{Inbox}
use Rattle.bank_server.specs.declared.session.session_fault.SessionFault.TheVariants.{Frame, Device}
use Rattle.bank_server.specs.inner.ClientSteps.{ClientState, ReachesClient}

-- a client with this inbox
abbrev pub client_of : Inbox → List ℕ → AskCounts → ClientLimits → Option End → Bool → ClientOf
client_of inbox outcomes counts limits ending broken = record {
  stream = inbox.stream;
  pending = inbox.pending.items;
  due = inbox.due;
  outcomes = outcomes;
  counts = counts;
  limits = limits;
  ending = ending;
  broken = broken;
}

-- how a client ends whose last bytes are these, that aren't a whole frame
abbrev pub ending_of : List ℕ → End
ending_of [] = Ok tt
ending_of (byte ∷ bytes) = Err (Frame Short)

-- how a client ends whose connection failed, that ended so or goes on
abbrev pub ending_at_failure : Option End → Option End
ending_at_failure None = Some (Err Device)
ending_at_failure (Some end) = Some end

abbrev pub state_of_client : List (Key × Call) → ClientOf → ClientState
state_of_client log client =
    record { log = log; pending = client.pending; due = client.due; outcomes = client.outcomes }

-- a client that is served, to whom outcomes may be due
pub record IsServing (opening : Rows) (asks log : List (Key × Call)) (past : PastOf) (client : ClientOf)
    : Type 0 where
  pub reached : ReachesClient opening asks past.sent past.frames (state_of_client log client)
  pub heard : IsHeard past client

-- whatever was asked before, and whatever is past of the client, this piece of it is taken
abbrev pub HearsClient : Rows → List (Key × Call) → ClientOf → Piece → List (Key × Call) → ClientOf → Type 0
HearsClient opening old_log old piece new_log new =
    (asks : List (Key × Call)) (past : PastOf) → old_log ≡ first_asks asks → IsServing opening asks old_log past old
    → (more : List wire.Frame) × (new_log ≡ first_asks (asks ++ asks_in more))
    × IsServing opening (asks ++ asks_in more) new_log
    (record { pieces = past.pieces ++ piece ∷ []; frames = past.frames ++ more; sent = past.sent }) new

-- by this piece a frame of a client that goes on became whole: less is left unread than was unread and came
abbrev pub BringsFrame : ClientOf → Piece → ClientOf → Type 0
BringsFrame old None new = ⊥
BringsFrame old (Some bytes) new =
    (new.ending ≡ None) × (length new.stream.unread < length (old.stream.unread ++ bytes))

-- and it was the piece of the client at this place
abbrev pub BringsFrameAt : ℕ → List ClientOf → Piece → List ClientOf → Type 0
BringsFrameAt place old piece new = (before : ClientOf) × (after : ClientOf) × (slice_get old place ≡ Some before)
    × (slice_get new place ≡ Some after) × BringsFrame before piece after

-- what came of a client begins with these frames
abbrev pub BeginsWithFrames : List Piece → List wire.Frame → Type 0
BeginsWithFrames pieces frames = (rest : List ℕ) × (bytes_of pieces ≡ flat_map spelling frames ++ rest)

-- this piece of a client was taken as far as memory was there: whatever was asked before, and whatever is
-- past of the client, the log is that of the asks of its frames too
abbrev pub StopsHearing : Rows → List (Key × Call) → ClientOf → Piece → List (Key × Call) → Type 0
StopsHearing opening old_log old piece new_log =
    (asks : List (Key × Call)) (past : PastOf) → old_log ≡ first_asks asks → IsServing opening asks old_log past old
    → (more : List wire.Frame) × All IsFromClient more × (new_log ≡ first_asks (asks ++ asks_in more))
    × BeginsWithFrames (past.pieces ++ piece ∷ []) (past.frames ++ more)

-- and so were arrivals, of all clients
abbrev pub StopsTaking : (List (Key × Call) → List (Key × Call) → PastOf → ClientOf → Type 0)
    → List (Key × Call) → List ClientOf → List (ℕ × Piece) → List (Key × Call) → Type 0
StopsTaking Served old_log old arrivals new_log =
    (asks : List (Key × Call)) (past : ℕ → PastOf) → AreServed Served asks past old_log old
    → (taken : List (ℕ × wire.Frame)) × All (λ t. IsFromClient t.1) taken
    × (new_log ≡ first_asks (asks ++ asks_of_all taken))
    × ((i : ℕ) → IfSome (slice_get old i) (λ client. BeginsWithFrames
    ((past i).pieces ++ pieces_of_client i arrivals) ((past i).frames ++ frames_of_client i taken)))

-- a client is told what is due: whatever was asked, and whatever is past of it, it stays served
abbrev pub TellsClient : Rows → List (Key × Call) → ClientOf → ClientOf → Type 0
TellsClient opening log old new = (asks : List (Key × Call)) (past : PastOf)
    → IsServing opening asks log past old → IsServing opening asks log past new

-- each client is told what is due
abbrev pub TellsClients : Rows → List (Key × Call) → List ClientOf → List ClientOf → Type 0
TellsClients opening log old new = (asks : List (Key × Call)) (past : ℕ → PastOf)
    → AreServed (IsServing opening) asks past log old → AreServed (IsServing opening) asks past log new

-- something is due only to clients of this list
abbrev pub AreDueWithin : List ℕ → List ClientOf → Type 0
AreDueWithin list clients = (i : ℕ) → IfSome (slice_get clients i) (λ client. (client.due ≡ 0) ⊎ Contains list i)

-- this many arrivals were taken from the front so far, which have come by now
pub record TakesSome (opening : Rows) (coming left : Option (List (ℕ × Piece))) (here here_left : Option ℕ) (count : ℕ)
    (old_log : List (Key × Call)) (old : List ClientOf) (new_log : List (Key × Call)) (new : List ClientOf)
    : Type 0 where
  pub arrivals : List (ℕ × Piece)
  pub count_is : length arrivals ≡ count
  pub came : TakesFromFront coming left arrivals
  pub of_them : TakesOfThem count here here_left
  pub taken : TakesArrivals (IsServing opening) old_log old arrivals new_log new
