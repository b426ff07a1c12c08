-- Replies as bytes spell them: a code, and the total that is shown.
use Rattle.std.specs.Prelude.{◌≡◌, ◌↔◌, ℕ, ℤ, pos, neg_ℤ, ◌≤ℤ◌, int_le, ◌==◌, Bool, ◌&&◌, if◌then◌else◌, Option, Some, None, List, ◌∷◌}
use Rattle.std.specs.Int.{Width, w64, to_be_bytes, cast_unsigned}
use Rattle.std.specs.Ordering.{int_eq}
use Rattle.sb_calls.specs.declared.reply.Reply.{Reply}
use Rattle.sb_calls.specs.declared.reply.Reply.TheVariants.{Shown, Done, Penalised, NoCustomer, SameCustomer, Negative, WouldOverdraw, OverLimit}
use Rattle.sb_calls.specs.declared.wire_reply.TheConstants.{TOTAL_LIMIT}

-- ---- which replies have a spelling

-- from -2 LIMIT to 2 LIMIT
pub record IsTotal (total : ℤ) : Type 0 where
  pub at_least : neg_ℤ TOTAL_LIMIT ≤ℤ total
  pub at_most : total ≤ℤ TOTAL_LIMIT

-- a reply is valid: a total that it shows is from -2 LIMIT to 2 LIMIT
abbrev pub IsReply : Reply → Type 0
IsReply (Shown total) = IsTotal total
IsReply Done = Unit {0}
IsReply Penalised = Unit {0}
IsReply NoCustomer = Unit {0}
IsReply SameCustomer = Unit {0}
IsReply Negative = Unit {0}
IsReply WouldOverdraw = Unit {0}
IsReply OverLimit = Unit {0}

-- ---- their spelling

-- a number, highest byte first
unfoldable pub integer_field : Width → ℕ → List ℕ
integer_field w n = to_be_bytes w n

-- cents in eight bytes, two's complement
abbrev pub amount_field : ℤ → List ℕ
amount_field cents = integer_field w64 (cast_unsigned w64 cents)

-- the code of a reply, by its kind
abbrev pub reply_code : Reply → ℕ
reply_code (Shown total) = 0
reply_code Done = 1
reply_code Penalised = 2
reply_code NoCustomer = 3
reply_code SameCustomer = 4
reply_code Negative = 5
reply_code WouldOverdraw = 6
reply_code OverLimit = 7

-- the total that a reply shows, else zero
abbrev pub shown_total : Reply → ℤ
shown_total (Shown total) = total
shown_total Done = pos 0
shown_total Penalised = pos 0
shown_total NoCustomer = pos 0
shown_total SameCustomer = pos 0
shown_total Negative = pos 0
shown_total WouldOverdraw = pos 0
shown_total OverLimit = pos 0

-- a reply: its code, then its total
abbrev pub reply_field : Reply → List ℕ
reply_field reply = reply_code reply ∷ amount_field (shown_total reply)

-- ---- what a code and a total are read as

abbrev pub is_total : ℤ → Bool
is_total total = int_le (neg_ℤ TOTAL_LIMIT) total && int_le total TOTAL_LIMIT

-- the replies that show no total, by their codes
abbrev pub plain_reply : ℕ → Option Reply
plain_reply code =
    if code == 1 then Some Done
    else if code == 2 then Some Penalised
    else if code == 3 then Some NoCustomer
    else if code == 4 then Some SameCustomer
    else if code == 5 then Some Negative
    else if code == 6 then Some WouldOverdraw
    else if code == 7 then Some OverLimit
    else None

-- the reply with a code and a total: code 0 shows a total in its range; every other code requires
-- total 0
unfoldable pub reply_with_code : ℕ → ℤ → Option Reply
reply_with_code code total =
    if code == 0 then (if is_total total then Some (Shown total) else None)
    else if int_eq total (pos 0) then plain_reply code
    else None

-- a code and a total are read as a reply exactly if they spell it
abbrev pub RepliesHaveOneCode : Type 0
RepliesHaveOneCode = (code : ℕ) (total : ℤ) (reply : Reply)
    → (reply_with_code code total ≡ Some reply)
    ↔ (IsReply reply × (code ≡ reply_code reply) × (total ≡ shown_total reply))
