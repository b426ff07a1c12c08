-- The standing of an ask in a log.
use Rattle.std.specs.Prelude.{ℕ, ◌≤◌, ◌+◌, ◌-◌, Bool, false, ◌&&◌, if◌then◌else◌, Option, Some, None, List, [], ◌∷◌, ◌++◌, slice_get, decimal, codes}
use Rattle.std.specs.Ordering.{int_eq}
use Rattle.std.specs.Str.{bytes_eq}
use Rattle.sb_calls.specs.ReplyText.{reply_text}
use Rattle.sb_calls.specs.declared.ask.Key.{Key}
use Rattle.sb_calls.specs.declared.call.Call.{Call}
use Rattle.sb_calls.specs.declared.call.Call.TheVariants.{Balance, DepositChecking, TransactSavings, Amalgamate, WriteCheck, SendPayment}
use Rattle.sb_calls.specs.declared.reply.Reply.{Reply}
use Rattle.sb_sequencer.specs.Numbering.{index_of_key}
use Rattle.bank_server.specs.declared.input.asking.Standing.{Standing}
use Rattle.bank_server.specs.declared.input.asking.Standing.TheVariants.{Number, Mismatch, LogFull}

-- whether two calls are the same
unfoldable pub same_call : Call → Call → Bool
same_call (Balance a) (Balance b) = bytes_eq a b
same_call (DepositChecking a v) (DepositChecking b w) = bytes_eq a b && int_eq v w
same_call (TransactSavings a v) (TransactSavings b w) = bytes_eq a b && int_eq v w
same_call (Amalgamate a c) (Amalgamate b d) = bytes_eq a b && bytes_eq c d
same_call (WriteCheck a v) (WriteCheck b w) = bytes_eq a b && int_eq v w
same_call (SendPayment a c v) (SendPayment b d w) = bytes_eq a b && bytes_eq c d && int_eq v w
same_call a b = false

-- the standing of a call whose key has number n, with this entry
abbrev pub numbered_standing : ℕ → Call → Option (Key × Call) → Standing
numbered_standing n call None = LogFull
numbered_standing n call (Some entry) = if same_call entry.1 call then Number n else Mismatch n

-- the standing of an ask whose key has this index in the log, or none
abbrev pub standing_at : List (Key × Call) → Call → Option ℕ → Standing
standing_at log call None = LogFull
standing_at log call (Some k) = numbered_standing (k + 1) call (slice_get log k)

-- the number of its key if the call is the same, and otherwise a mismatch; if its key has no
-- number, the log is full
abbrev pub standing_of : List (Key × Call) → Key × Call → Standing
standing_of log ask = standing_at log ask.1 (index_of_key log ask.0)

-- N REPLY, for a number with this reply
abbrev pub reply_line : ℕ → Option Reply → List ℕ
reply_line n None = []
reply_line n (Some reply) = decimal n ++ (32 ∷ reply_text reply)

-- the line of an ask with this standing, by the replies to the log: N REPLY, `mismatch N` or `log
-- full`
abbrev pub standing_line : List Reply → Standing → List ℕ
standing_line replies (Number n) = reply_line n (slice_get replies (n - 1))
standing_line replies (Mismatch n) = codes "mismatch " ++ decimal n
standing_line replies LogFull = codes "log full"

-- the number in the standing, if there is one, is at most this
abbrev pub IsStandingWithin : ℕ → Standing → Type 0
IsStandingWithin calls (Number n) = n ≤ calls
IsStandingWithin calls (Mismatch n) = n ≤ calls
IsStandingWithin calls LogFull = Unit {0}
