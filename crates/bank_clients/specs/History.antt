-- What happens to clients who are served at once, from the first to the last.
use Rattle.std.specs.Prelude.{◌≡◌, ◌⊎◌, ◌≤◌, ◌<◌, ℕ, Bool, true, Option, Some, Err, List, [], ◌∷◌, ◌++◌, length, map, IfSome, slice_get}
use Rattle.std.specs.List.{All, flat_map, fold, sum}
use Rattle.sb_rows.specs.Rows.{Rows}
use Rattle.sb_calls.specs.declared.ask.Key.{Key}
use Rattle.sb_calls.specs.declared.call.Call.{Call}
use Rattle.sb_frames.specs.declared.frame.Frame as wire
use Rattle.sb_sequencer.specs.Numbering.{IsLog, first_asks}
use Rattle.bank_server.specs.Clients.{AreServed, AreTakenInOrder, ClientOf, End, IsServed, PastOf, Piece, TakesFromFront, asks_of_all, IsFreshClient, no_past, past_after, past_with, sends}
use Rattle.bank_server.specs.declared.session.session_fault.SessionFault.TheVariants.{Device}

-- ---- what happens

-- pieces come, each from the client at a place, and frames are taken; or the connection at a place takes
-- bytes of its client's outcomes; or a client leaves, whose session ended so, and its place is free for
-- another one
pub data ClientEvent : Type 0 where
  Comes : (pieces : List (ℕ × Piece)) (taken : List (ℕ × wire.Frame)) → ClientEvent
  Takes : (place : ℕ) (bytes : List ℕ) → ClientEvent
  Leaves : (place : ℕ) (end : End) → ClientEvent

-- what was asked by all clients, and what is past of the client at each place
pub record HistoryOf : Type 0 where
  pub asks : List (Key × Call)
  pub past : ℕ → PastOf

-- before the first client: these are the asks of the log that is there, and nobody has a past
abbrev pub first_history : List (Key × Call) → HistoryOf
first_history log = record { asks = log; past = λ i. no_past }

-- the history with one event more
abbrev pub with_client_event : HistoryOf → ClientEvent → HistoryOf
with_client_event h (Comes pieces taken) =
    record { asks = h.asks ++ asks_of_all taken; past = past_after h.past pieces taken }
with_client_event h (Takes place bytes) = record { asks = h.asks; past = sends place bytes h.past }
with_client_event h (Leaves place end) = record { asks = h.asks; past = past_with place no_past h.past }

-- the history after these events
abbrev pub history_after : HistoryOf → List ClientEvent → HistoryOf
history_after h events = fold with_client_event h events

-- ---- who is served

-- after this history, the log is that of all asks, and each client is served by it, as if its own
-- session were alone
abbrev pub ServesEach : Rows → HistoryOf → List (Key × Call) → List ClientOf → Type 0
ServesEach opening h log clients = AreServed (IsServed opening) h.asks h.past log clients

-- ---- whose session is over

-- how a session is over whose client ended so, with these outcomes left: its own way if none is left;
-- with Device if its connection failed, or it left too many unread
abbrev pub IsOverWith : End → List ℕ → Bool → End → Type 0
IsOverWith own [] broken end = end ≡ own
IsOverWith own (byte ∷ rest) broken end = (end ≡ Err Device) × ((own ≡ Err Device) ⊎ (broken ≡ true))

-- a client's session is over so
abbrev pub IsOver : ClientOf → End → Type 0
IsOver client end =
    (own : End) × (client.ending ≡ Some own) × IsOverWith own client.outcomes client.broken end

-- the most bytes of outcomes that all clients together may leave unread
abbrev pub unread_limit : ℕ
unread_limit = 268435456

-- how many bytes of outcomes these clients have unread, all together
abbrev pub unread_by_all : List ClientOf → ℕ
unread_by_all clients = sum (map (λ client. length client.outcomes) clients)

-- all clients together have too much unread, and nobody has more than this one
abbrev pub HasMostUnread : List ClientOf → ClientOf → Type 0
HasMostUnread clients client = (unread_limit < unread_by_all clients)
    × All (λ other. length other.outcomes ≤ length client.outcomes) clients

-- the session at a place is over so: by its own client, or with Device since all have too much unread
abbrev pub IsOverAt : List ClientOf → ℕ → End → Type 0
IsOverAt clients place end = (client : ClientOf) × (slice_get clients place ≡ Some client)
    × (IsOver client end ⊎ ((end ≡ Err Device) × HasMostUnread clients client))

-- ---- what may happen

-- frames are taken as they came, and a client leaves only when its session is over: of clients that are
-- served, and have this past, the one at this place is over so
abbrev pub MayHappen : Rows → HistoryOf → ClientEvent → Type 0
MayHappen opening h (Comes pieces taken) = AreTakenInOrder pieces taken
MayHappen opening h (Takes place bytes) = Unit {0}
MayHappen opening h (Leaves place end) = (clients : List ClientOf)
    × ServesEach opening h (first_asks h.asks) clients × IsOverAt clients place end

-- each of these events may happen, one after another
abbrev pub MayAllHappen : Rows → HistoryOf → List ClientEvent → Type 0
MayAllHappen opening h [] = Unit {0}
MayAllHappen opening h (event ∷ events) =
    MayHappen opening h event × MayAllHappen opening (with_client_event h event) events

-- ---- what is seen of it outside

-- the pieces that come, the bytes that connections take, each with its place, and how sessions end
abbrev pub pieces_in : ClientEvent → List (ℕ × Piece)
pieces_in (Comes pieces taken) = pieces
pieces_in (Takes place bytes) = []
pieces_in (Leaves place end) = []

abbrev pub bytes_in : ClientEvent → List (ℕ × List ℕ)
bytes_in (Comes pieces taken) = []
bytes_in (Takes place bytes) = (place, bytes) ∷ []
bytes_in (Leaves place end) = []

abbrev pub ends_in : ClientEvent → List End
ends_in (Comes pieces taken) = []
ends_in (Takes place bytes) = []
ends_in (Leaves place end) = end ∷ []

-- what is known of connections: what is still to come, and what they took
pub record OutsideOf : Type 0 where
  pub coming : Option (List (ℕ × Piece))
  pub sent : Option (List (ℕ × List ℕ))

-- connections took these bytes, if it is known what they take
abbrev pub TakesBytes : Option (List (ℕ × List ℕ)) → Option (List (ℕ × List ℕ)) → List (ℕ × List ℕ) → Type 0
TakesBytes old new bytes = IfSome old (λ sent. new ≡ Some (sent ++ bytes))

-- this is what came and went outside, and how sessions ended
pub record ComesAndGoes (old new : OutsideOf) (ends : List End) (events : List ClientEvent) : Type 0 where
  pub came : TakesFromFront old.coming new.coming (flat_map pieces_in events)
  pub went : TakesBytes old.sent new.sent (flat_map bytes_in events)
  pub ended : ends ≡ flat_map ends_in events

-- ---- what goes on

-- whatever the history was: what may happen happens, as it did outside, sessions end so, in this order,
-- and after it all clients are served
abbrev pub GoesOn : Rows → OutsideOf → List (Key × Call) → List ClientOf → List End → OutsideOf
    → List (Key × Call) → List ClientOf → Type 0
GoesOn opening outside old_log old ends outside_after new_log new =
    (h : HistoryOf) → ServesEach opening h old_log old → (events : List ClientEvent)
    × MayAllHappen opening h events × ComesAndGoes outside outside_after ends events
    × ServesEach opening (history_after h events) new_log new

-- clients before their first byte are served, by any log that is there
abbrev pub BeginsServed : Type 0
BeginsServed = (opening : Rows) (log : List (Key × Call)) (clients : List ClientOf) → IsLog log
    → All IsFreshClient clients → ServesEach opening (first_history log) log clients
