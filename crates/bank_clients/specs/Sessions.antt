-- The sessions of clients who are served at once.
use Rattle.std.specs.Prelude.{◌≡◌, ◌⊎◌, ℕ, ◌==◌, Bool, true, if◌then◌else◌, Option, Some, None, is_some, List, [], ◌++◌, replicate, IfSome, slice_get}
use Rattle.std.specs.List.{All, Contains, flat_map}
use Rattle.bank_server.specs.Clients.{ClientOf, ClientsOf, IsReady, OutgoingOf, Piece, fresh_client}
use Rattle.bank_server.specs.declared.session.client_limits.ClientLimits.{ClientLimits}
use Rattle.bank_clients.specs.History.{OutsideOf, TakesBytes}

-- connections, the clients there, and the places of those who ended and aren't left yet
pub record SessionsOf (A : Type 0) : Type 0 where
  pub connections : A
  pub clients : ClientsOf
  pub leaving : List ℕ

-- so many clients before their first byte, within these limits, none of whom was told anything
abbrev pub fresh_clients : ClientLimits → ℕ → ClientsOf
fresh_clients limits count =
    record { limits = limits; all = replicate count (fresh_client limits); stirred = [] }

-- what is known of these connections, by what says so
abbrev pub outside_of : {A : Type 0} → (A → Option (List (ℕ × Piece))) → (A → OutgoingOf) → A → OutsideOf
outside_of coming outgoing connections =
    record { coming = coming connections; sent = (outgoing connections).sent }

-- the connection at a place takes no more by now, or is among those that are writable again
abbrev pub IsUnsent : (ℕ → Bool) → List ℕ → ℕ → Type 0
IsUnsent full writable place = (full place ≡ true) ⊎ Contains writable place

-- the connection of each client who has outcomes left takes no more by now, or is among these
abbrev pub AreSentBut : (ℕ → Bool) → List ℕ → List ClientOf → Type 0
AreSentBut full places clients =
    (i : ℕ) → IfSome (slice_get clients i) (λ client. (client.outcomes ≡ []) ⊎ IsUnsent full places i)

-- what the client at a place has unread, which is nothing if nobody is there
abbrev pub unread_of : Option ClientOf → List ℕ
unread_of None = []
unread_of (Some client) = client.outcomes

-- the bytes that went to the client at a place, in order
abbrev pub bytes_to : ℕ → List (ℕ × List ℕ) → List ℕ
bytes_to place took = flat_map (λ (t : ℕ × List ℕ). if t.0 == place then t.1 else []) took

-- each connection took nothing but a beginning of what its client had unread, if it is known what they take
pub record TakesUnread (clients : List ClientOf) (old new : Option (List (ℕ × List ℕ))) : Type 0 where
  pub bytes : List (ℕ × List ℕ)
  pub took : TakesBytes old new bytes
  pub unread : (place : ℕ) → (rest : List ℕ) × (unread_of (slice_get clients place) ≡ bytes_to place bytes ++ rest)

-- each client who has ended is among these
abbrev pub AreListed : List ℕ → List ClientOf → Type 0
AreListed places clients =
    (i : ℕ) → IfSome (slice_get clients i) (λ client. is_some client.ending ≡ true → Contains places i)

-- sessions that can be served, by a log of this many calls: each client is ready for a turn, those who
-- have ended are to be left, and those who have outcomes left wait for their connections
pub record AreReady {A : Type 0} (outgoing : A → OutgoingOf) (writable : A → List ℕ) (calls : ℕ)
    (sessions : SessionsOf A) : Type 0 where
  pub ready : All (λ client. IsReady calls client) sessions.clients.all
  pub listed : AreListed sessions.leaving sessions.clients.all
  pub sent : AreSentBut (outgoing sessions.connections).full (writable sessions.connections) sessions.clients.all
