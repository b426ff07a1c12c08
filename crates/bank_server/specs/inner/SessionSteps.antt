-- The session of a client who is served alone, piece after piece.
use Rattle.std.specs.Prelude.{◌≡◌, ℕ, Option, Some, List, [], ◌∷◌, ◌++◌}
use Rattle.std.specs.Io.KnownBytes.{Appends, Consumes, IsAtEnd}
use Rattle.std.specs.List.{Contains}
use Rattle.sb_rows.specs.Rows.{Rows}
use Rattle.sb_calls.specs.declared.ask.Key.{Key}
use Rattle.sb_calls.specs.declared.call.Call.{Call}
use Rattle.sb_frames.specs.declared.frame.Frame as wire
use Rattle.sb_sequencer.specs.Numbering.{first_asks}
use Rattle.bank_server.specs.Clients.{ClientOf, PastOf, Piece, bytes_of}
use Rattle.bank_server.specs.Session.{asks_in}
use Rattle.bank_server.specs.inner.ClientTurns.{IsServing}

-- a piece of a client is taken, and what it is told is written: whatever was asked before, and whatever is
-- past of the client, it stays served
abbrev pub ServesPiece : Rows → List (Key × Call) → ClientOf → Option (List ℕ) → Piece → List (Key × Call) → ClientOf
    → Option (List ℕ) → Type 0
ServesPiece opening old_log old old_written piece new_log new new_written =
    (asks : List (Key × Call)) (past : PastOf) (start : Option (List ℕ)) → old_log ≡ first_asks asks
    → IsServing opening asks old_log past old → Appends start old_written past.sent
    → (more : List wire.Frame) × (sent : List ℕ) × IsServing opening (asks ++ asks_in more) new_log
    (record { pieces = past.pieces ++ piece ∷ []; frames = past.frames ++ more; sent = sent }) new
    × Appends start new_written sent

-- the client of a session is served: all asks are those before it and its own, what it was sent was written,
-- and what was read came from it, to the last byte if its end came
pub record IsInSession (opening : Rows) (before : List (Key × Call)) (given left start written : Option (List ℕ))
    (log : List (Key × Call)) (client : ClientOf) : Type 0 where
  pub past : PastOf
  pub serving : IsServing opening (before ++ asks_in past.frames) log past client
  pub output : Appends start written past.sent
  pub read : Consumes given left (bytes_of past.pieces)
  pub over : Contains past.pieces (Some []) → IsAtEnd left
