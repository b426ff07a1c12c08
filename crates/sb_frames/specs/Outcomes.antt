-- Replies, and the results of asks, read from the left.
use Rattle.std.specs.Prelude.{ℕ, ℤ, pos, ◌==◌, ◌&&◌, if◌then◌else◌, Result, Ok, Err, List}
use Rattle.std.specs.Option.{ok_or}
use Rattle.std.specs.Ordering.{int_eq}
use Rattle.sb_calls.specs.Replies.{reply_with_code}
use Rattle.sb_calls.specs.declared.reply.Reply.{Reply}
use Rattle.sb_frames.specs.Reading.{◌>>=◌, byte_at, signed_at}
use Rattle.sb_frames.specs.declared.fault.FrameFault.{FrameFault}
use Rattle.sb_frames.specs.declared.fault.FrameFault.TheVariants.{BadReply, BadStatus}
use Rattle.sb_frames.specs.declared.frame.AskOutcome.{AskOutcome}
use Rattle.sb_frames.specs.declared.frame.AskOutcome.TheVariants.{Replied, Mismatch, LogFull}

-- the reply with a code and a total, or the fault
abbrev pub reply_of_code : ℕ → ℤ → Result Reply FrameFault
reply_of_code code total = ok_or (reply_with_code code total) BadReply

-- a reply is one field of nine bytes; all of them must be there before any is examined
unfoldable pub reply_at : List ℕ → Result (Reply × List ℕ) FrameFault
reply_at bytes = do
  code ← byte_at bytes
  total ← signed_at code.1
  reply ← reply_of_code code.0 total.0
  Ok (reply, total.1)

-- nine zeros in place of a reply
unfoldable pub no_reply_at : AskOutcome → List ℕ → Result (AskOutcome × List ℕ) FrameFault
no_reply_at outcome bytes = do
  code ← byte_at bytes
  total ← signed_at code.1
  if (code.0 == 0) && int_eq total.0 (pos 0) then Ok (outcome, total.1) else Err BadReply

abbrev pub replied_at : List ℕ → Result (AskOutcome × List ℕ) FrameFault
replied_at bytes = do
  reply ← reply_at bytes
  Ok (Replied reply.0, reply.1)

-- the outcome after a status byte
abbrev pub outcome_of_status : ℕ → List ℕ → Result (AskOutcome × List ℕ) FrameFault
outcome_of_status status bytes =
    if status == 0 then replied_at bytes
    else if status == 1 then no_reply_at Mismatch bytes
    else if status == 2 then no_reply_at LogFull bytes
    else Err BadStatus

-- the result of an ask: its status, then the reply
unfoldable pub outcome_at : List ℕ → Result (AskOutcome × List ℕ) FrameFault
outcome_at bytes = do
  status ← byte_at bytes
  outcome_of_status status.0 status.1
