-- Steps of a round in which nothing is asked.
use Rattle.std.specs.Prelude.{◌≡◌, ◌⊎◌, ℕ, true, Option, Some, is_some, List, [], ◌++◌, map, IfSome, slice_get}
use Rattle.std.specs.List.{All, Contains}
use Rattle.sb_calls.specs.declared.ask.Key.{Key}
use Rattle.sb_calls.specs.declared.call.Call.{Call}
use Rattle.sb_rows.specs.Rows.{Rows}
use Rattle.bank_server.specs.Clients.{ClientOf, End}
use Rattle.bank_clients.specs.History.{GoesOn, HasMostUnread, IsOver, OutsideOf, TakesBytes}
use Rattle.bank_clients.specs.Sessions.{bytes_to, unread_of}

-- whatever the log is, it stays, no session ends, and each client stays served
abbrev pub StandsBy : OutsideOf → List ClientOf → OutsideOf → List ClientOf → Type 0
StandsBy outside old outside_after new = (opening : Rows) (log : List (Key × Call))
    → GoesOn opening outside log old [] outside_after log new

-- each connection took a beginning of what its client had unread, and the client has the rest unread still
pub record LeavesRest (old new : List ClientOf) (sent sent_after : Option (List (ℕ × List ℕ))) : Type 0 where
  pub bytes : List (ℕ × List ℕ)
  pub took : TakesBytes sent sent_after bytes
  pub rest : (place : ℕ)
      → unread_of (slice_get old place) ≡ bytes_to place bytes ++ unread_of (slice_get new place)

-- how each client ended, if it has
abbrev pub endings_of : List ClientOf → List (Option End)
endings_of clients = map (λ client. client.ending) clients

-- each client who has ended is listed, or among those who are listed next
abbrev pub AreToBeListed : List ℕ → List ℕ → List ClientOf → Type 0
AreToBeListed listed next clients = (i : ℕ) → IfSome (slice_get clients i)
    (λ client. is_some client.ending ≡ true → Contains listed i ⊎ Contains next i)

-- the session at a place is over so, whatever other clients have unread
abbrev pub IsOverAlone : List ClientOf → ℕ → End → Type 0
IsOverAlone clients place end =
    (client : ClientOf) × (slice_get clients place ≡ Some client) × IsOver client end

-- the client at a place has most unread of all, who together have too much
abbrev pub HasMostUnreadAt : List ClientOf → ℕ → Type 0
HasMostUnreadAt clients place =
    (client : ClientOf) × (slice_get clients place ≡ Some client) × HasMostUnread clients client

-- the clients at these places have nothing unread
abbrev pub HaveNoneUnread : List ℕ → List ClientOf → Type 0
HaveNoneUnread places clients =
    All (λ place. IfSome (slice_get clients place) (λ client. client.outcomes ≡ [])) places
