-- Bytes that are walked through field by field, and amounts and replies that are read back.
use Rattle.std.proofs.Common.{◌≡◌, ℕ, ◌+◌, ◌*◌, ◌^◌, ◌<◌, ◌≤◌, ℤ, List, [], ◌∷◌, ◌++◌, length, take, drop, map, Some, refl, sym, ap, ap₂, ◌∙◌, append_assoc, arith}
use Rattle.std.specs.Prelude.{FitsSigned}
use Rattle.std.specs.Int.{w32, w64, from_be_bytes, cast_signed, cast_unsigned}
use Rattle.std.specs.List.{AllByRecursion, flat_map}
use Rattle.std.specs.Simd.{first_chunks}
use Rattle.std.proofs.lemmas.Int.{to_z-of_z, ints}
use Rattle.std.proofs.lemmas.List.{drop-drop, drop_at, length-append, length-drop, take_at}
use Rattle.std.proofs.lemmas.Nat.{from_be_bytes-to_be_bytes_4, from_be_bytes-to_be_bytes_8}
use Rattle.sb_calls.specs.Replies.{IsReply, integer_field, amount_field, reply_field, shown_total}
use Rattle.sb_calls.specs.declared.reply.Reply.{Reply}
use Rattle.sb_calls.specs.declared.reply.Reply.TheVariants.{Shown, Done, Penalised, NoCustomer, SameCustomer, Negative, WouldOverdraw, OverLimit}
use Rattle.sb_calls.proofs.ReplyCodeLaws.{reply_read_back}
use Rattle.sb_checkpoint.specs.Reading.{stated_amount, amounts_at, stated_reply}

-- ---- walking

-- the bytes from a place on
pub record IsAt (bytes : List ℕ) (at : ℕ) (rest : List ℕ) : Type 0 where
  pub within : at ≤ length bytes
  pub behind : drop at bytes ≡ rest

-- past a field
pub step : (bytes : List ℕ) (at n next : ℕ) (field rest : List ℕ) → length field ≡ n → next ≡ at + n → IsAt bytes at (field ++ rest)
    → (take n (drop at bytes) ≡ field) × IsAt bytes next rest
step bytes at n next field rest size is here = (
  ap (take n) here.behind ∙ take_at field rest n size,
  record {
    within = omega (arith, here.within, length-drop at bytes, ap length here.behind, length-append field rest);
    behind = ap (λ m. drop m bytes) is ∙ sym (drop-drop n at bytes) ∙ ap (drop n) here.behind ∙ drop_at field rest n size;
  },
)

-- ---- numbers and amounts

pub number32_size : (n : ℕ) → length (integer_field w32 n) ≡ 4
unfolding integer_field
number32_size n = refl

pub number64_size : (n : ℕ) → length (integer_field w64 n) ≡ 8
unfolding integer_field
number64_size n = refl

pub number32_again : (n : ℕ) → n < 2 ^ 32 → from_be_bytes w32 (integer_field w32 n) ≡ n
unfolding integer_field
number32_again n lt = from_be_bytes-to_be_bytes_4 n lt

pub number64_again : (n : ℕ) → n < 2 ^ 64 → from_be_bytes w64 (integer_field w64 n) ≡ n
unfolding integer_field
number64_again n lt = from_be_bytes-to_be_bytes_8 n lt

pub amount_again : (cents : ℤ) → FitsSigned w64 cents → stated_amount (amount_field cents) ≡ cents
amount_again cents fits =
    let lt : cast_unsigned w64 cents < 2 ^ 64 = omega (arith, ints, fits) in
    ap (cast_signed w64) (number64_again (cast_unsigned w64 cents) lt) ∙ to_z-of_z w64 cents fits

pub amounts_size : (amounts : List ℤ) → length (flat_map amount_field amounts) ≡ 8 * length amounts
amounts_size [] = refl
amounts_size (a ∷ amounts) =
    omega (arith, amounts_size amounts, length-append (amount_field a) (flat_map amount_field amounts), number64_size (cast_unsigned w64 a))

each_again : (amounts : List ℤ) (rest : List ℕ) → AllByRecursion (FitsSigned w64) amounts
    → amounts_at (length amounts) (flat_map amount_field amounts ++ rest) ≡ amounts
each_again [] rest fit = refl
each_again (a ∷ amounts) rest fit =
    let field = amount_field a in
    let others = flat_map amount_field amounts in
    let size = number64_size (cast_unsigned w64 a) in
    let whole = append_assoc field others rest in
    ap₂ ◌∷◌ (ap stated_amount (ap (take 8) whole ∙ take_at field (others ++ rest) 8 size) ∙ amount_again a fit.0)
    (ap (amounts_at (length amounts)) (ap (drop 8) whole ∙ drop_at field (others ++ rest) 8 size) ∙ each_again amounts rest fit.1)

pub amounts_again : (count : ℕ) (amounts : List ℤ) (rest : List ℕ) → length amounts ≡ count → AllByRecursion (FitsSigned w64) amounts
    → amounts_at count (flat_map amount_field amounts ++ rest) ≡ amounts
amounts_again count amounts rest many fit =
    ap (λ n. amounts_at n (flat_map amount_field amounts ++ rest)) (sym many) ∙ each_again amounts rest fit

-- ---- replies

reply_size : (reply : Reply) → length (reply_field reply) ≡ 9
reply_size reply = omega (arith, number64_size (cast_unsigned w64 (shown_total reply)))

total_fits : (reply : Reply) → IsReply reply → FitsSigned w64 (shown_total reply)
total_fits (Shown total) valid = let low = valid.at_least in let high = valid.at_most in omega (arith, ints)
total_fits Done valid = omega (arith, ints)
total_fits Penalised valid = omega (arith, ints)
total_fits NoCustomer valid = omega (arith, ints)
total_fits SameCustomer valid = omega (arith, ints)
total_fits Negative valid = omega (arith, ints)
total_fits WouldOverdraw valid = omega (arith, ints)
total_fits OverLimit valid = omega (arith, ints)

reply_again : (reply : Reply) → IsReply reply → stated_reply (reply_field reply) ≡ Some reply
unfolding stated_reply
reply_again reply valid = rw (amount_again (shown_total reply) (total_fits reply valid)) (reply_read_back reply valid)

pub replies_size : (replies : List Reply) → length (flat_map reply_field replies) ≡ 9 * length replies
replies_size [] = refl
replies_size (r ∷ replies) =
    omega (arith, replies_size replies, length-append (reply_field r) (flat_map reply_field replies), reply_size r)

pub replies_again : (replies : List Reply) (rest : List ℕ) → AllByRecursion IsReply replies
    → map stated_reply (first_chunks 9 (length replies) (flat_map reply_field replies ++ rest)) ≡ map (λ r. Some r) replies
replies_again [] rest valid = refl
replies_again (r ∷ replies) rest valid =
    let field = reply_field r in
    let others = flat_map reply_field replies in
    let whole = append_assoc field others rest in
    ap₂ ◌∷◌ (ap stated_reply (ap (take 9) whole ∙ take_at field (others ++ rest) 9 (reply_size r)) ∙ reply_again r valid.0)
    (ap (λ xs. map stated_reply (first_chunks 9 (length replies) xs)) (ap (drop 9) whole ∙ drop_at field (others ++ rest) 9 (reply_size r))
    ∙ replies_again replies rest valid.1)
