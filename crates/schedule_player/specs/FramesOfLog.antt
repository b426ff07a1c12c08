-- The frames to a replica and from it, compared with the log.
use Rattle.std.specs.Prelude.{◌≡◌, ℕ, ◌≤◌, Some, length}
use Rattle.sb_calls.specs.declared.call.Call.{Call}
use Rattle.sb_frames.specs.declared.frame.Frame.{Frame}
use Rattle.sb_frames.specs.declared.frame.Frame.TheVariants as frame
use Rattle.schedule_player.specs.Bank.{BankOf, log_reply}
use Rattle.schedule_player.specs.OneBased.{nth_item}

-- the frame is an entry of the log
pub record IsEntryOf (bank : BankOf) (sent : Frame) : Type 0 where
  pub number : ℕ
  pub call : Call
  pub frame_is : sent ≡ frame.Entry number call
  pub in_log : nth_item bank.calls number ≡ Some call

-- what a replica may send: the length of its log or of its checkpoint, at most the log's, under its
-- own number; or the log's reply to a number
abbrev pub IsSentBy : BankOf → ℕ → Frame → Type 0
IsSentBy bank r (frame.Ack replica size) = (replica ≡ r) × (size ≤ length bank.calls)
IsSentBy bank r (frame.Have replica size) = (replica ≡ r) × (size ≤ length bank.calls)
IsSentBy bank r (frame.Answer number reply) = log_reply bank number ≡ Some reply
IsSentBy bank r other = ⊥
