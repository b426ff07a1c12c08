-- How the fields of a frame are spelled. Numbers, amounts and replies are spelled as sb_calls
-- defines, in its Replies.
use Rattle.std.specs.Prelude.{ℕ, pos, List, ◌∷◌, ◌++◌, length}
use Rattle.sb_calls.specs.Replies.{amount_field, reply_field}
use Rattle.sb_calls.specs.declared.call.Call.{Call}
use Rattle.sb_calls.specs.declared.call.Call.TheVariants.{Balance, DepositChecking, TransactSavings, Amalgamate, WriteCheck, SendPayment}
use Rattle.sb_frames.specs.declared.frame.AskOutcome.{AskOutcome}
use Rattle.sb_frames.specs.declared.frame.AskOutcome.TheVariants.{Replied, Mismatch, LogFull}

-- a name: its length, then its bytes
abbrev pub name_field : List ℕ → List ℕ
name_field name = length name ∷ name

-- a call: its kind, its names, and its amount if it has one
abbrev pub call_field : Call → List ℕ
call_field (Balance name) = 1 ∷ name_field name
call_field (DepositChecking name amount) = 2 ∷ (name_field name ++ amount_field amount)
call_field (TransactSavings name amount) = 3 ∷ (name_field name ++ amount_field amount)
call_field (Amalgamate from to) = 4 ∷ (name_field from ++ name_field to)
call_field (WriteCheck name amount) = 5 ∷ (name_field name ++ amount_field amount)
call_field (SendPayment from to amount) = 6 ∷ (name_field from ++ (name_field to ++ amount_field amount))

-- the nine zeros in place of a reply
abbrev pub no_reply_field : List ℕ
no_reply_field = 0 ∷ amount_field (pos 0)

-- the result of an ask: its status, then the reply
abbrev pub outcome_field : AskOutcome → List ℕ
outcome_field (Replied reply) = 0 ∷ reply_field reply
outcome_field Mismatch = 1 ∷ no_reply_field
outcome_field LogFull = 2 ∷ no_reply_field
