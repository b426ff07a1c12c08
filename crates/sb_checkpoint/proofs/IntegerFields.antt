-- Numbers, amounts and replies in bytes: what is read has its spelling there, and a spelling is
-- read as its value.
use Rattle.std.proofs.Common.{◌≡◌, ℕ, ◌^◌, ◌<◌, List, ◌∷◌, length, get_or, drop, Some, refl, sym, ap, ap₂, ◌∙◌, arith, inl, inr}
use Rattle.std.specs.Int.{w32, w64, from_be_bytes}
use Rattle.std.specs.List.{All}
use Rattle.std.proofs.lemmas.Bool.{cases_lt}
use Rattle.std.proofs.lemmas.Int.{of_z-to_z}
use Rattle.std.proofs.lemmas.List.{get_or_past, drop_more, length-drop}
use Rattle.std.proofs.lemmas.List.Elements.{All-drop}
use Rattle.std.proofs.lemmas.Nat.{be_bytes_4, be_bytes_8}
use Rattle.sb_calls.specs.Replies.{IsReply, integer_field, amount_field, reply_field}
use Rattle.sb_calls.specs.declared.reply.Reply.{Reply}
use Rattle.sb_calls.proofs.ReplyCodeLaws.{reply_has_code}
use Rattle.sb_checkpoint.specs.Reading.{stated_amount, stated_reply}

abbrev pub AreBytes : List ℕ → Type 0
AreBytes bytes = All (λ byte. byte < 256) bytes

each_byte : (bytes : List ℕ) → AreBytes bytes → (i : ℕ) → get_or bytes i 0 < 256
each_byte bytes h i = elim (cases_lt i (length bytes)) [ inl lt ↦ h i 0 lt | inr le ↦ rw (get_or_past bytes i 0 le) (omega arith) ]

-- ---- numbers

pub number32_spelled : (cells : List ℕ) → length cells ≡ 4 → AreBytes cells → integer_field w32 (from_be_bytes w32 cells) ≡ cells
unfolding integer_field
number32_spelled cells len h = be_bytes_4 cells _ len (each_byte cells h) refl

pub number64_spelled : (cells : List ℕ) → length cells ≡ 8 → AreBytes cells → integer_field w64 (from_be_bytes w64 cells) ≡ cells
unfolding integer_field
number64_spelled cells len h = be_bytes_8 cells _ len (each_byte cells h) refl

pub number64_below : (cells : List ℕ) → AreBytes cells → from_be_bytes w64 cells < 2 ^ 64
number64_below cells h =
    let b = each_byte cells h in
    omega (arith, b 0, b 1, b 2, b 3, b 4, b 5, b 6, b 7)

-- ---- amounts

pub amount_spelled : (cells : List ℕ) → length cells ≡ 8 → AreBytes cells → amount_field (stated_amount cells) ≡ cells
amount_spelled cells len h =
    ap (integer_field w64) (of_z-to_z w64 (from_be_bytes w64 cells) (number64_below cells h)) ∙ number64_spelled cells len h

-- ---- replies

pub reply_spelled : (cells : List ℕ) (reply : Reply) → length cells ≡ 9 → AreBytes cells → stated_reply cells ≡ Some reply
    → IsReply reply × (reply_field reply ≡ cells)
unfolding stated_reply
reply_spelled cells reply len h e =
    let is = reply_has_code (get_or cells 0 0) (stated_amount (drop 1 cells)) reply e in
    let total = amount_spelled (drop 1 cells) (omega (arith, length-drop 1 cells)) (All-drop (λ byte. byte < 256) 1 cells h) in (
      is.valid,
      ap₂ ◌∷◌ (sym is.code_is) (ap amount_field (sym is.total_is) ∙ total) ∙ sym (drop_more cells 0 0 (omega arith)),
    )
