-- Asks that wait for a flush.
use Rattle.std.specs.Prelude.{ℕ, if◌then◌else◌, List, [], ◌∷◌}
use Rattle.std.specs.List.{All, list_any}
use Rattle.sb_calls.specs.declared.ask.Key.{Key}
use Rattle.sb_calls.specs.declared.call.Call.{Call}
use Rattle.sb_frames.specs.declared.frame.Frame as frames
use Rattle.bank_server.specs.Session.{is_flush, asks_in}
use Rattle.bank_server.specs.Standing.{IsStandingWithin, standing_of}
use Rattle.bank_server.specs.declared.session.inbox.PendingAsk.{PendingAsk}

-- the asks that no flush follows
abbrev pub unflushed_asks : List frames.Frame → List (Key × Call)
unflushed_asks [] = []
unflushed_asks (frame ∷ frames) = if list_any is_flush frames then unflushed_asks frames else asks_in (frame ∷ frames)

-- a pending ask, with its standing in a log
abbrev pub pending_ask : List (Key × Call) → Key × Call → PendingAsk
pending_ask log ask = record { key = ask.0; standing = standing_of log ask }

-- the standings of the pending asks are in a log of this many calls
abbrev pub ArePendingWithin : ℕ → List PendingAsk → Type 0
ArePendingWithin calls pending = All (λ ask. IsStandingWithin calls ask.standing) pending
