-- Bytes as chunks of one size.
use Rattle.std.proofs.Common.{◌≡◌, ℕ, zero, suc, ◌+◌, ◌-◌, ◌*◌, ◌/◌, ◌<◌, ◌≤◌, Bor, List, ◌∷◌, length, take, drop, map, Option, Some, None, refl, sym, ap, ap₂, ◌∙◌, arith}
use Rattle.std.proofs.Math.Nat.{mul-div_cancel, mul_comm}
use Rattle.std.proofs.lemmas.List.{drop-take, take-take, length-drop, length-map, length-take-le}
use Rattle.std.specs.Array.{IsFirstChunk}
use Rattle.std.specs.Option.{MatchOption}
use Rattle.std.specs.Simd.{first_chunks}
use Rattle.sb_checkpoint.specs.Checkpoint.{Layout}
use Rattle.sb_checkpoint.specs.Reading.{stated_amount, amounts_at, empty_size, stated_reply, stated_customers, stated_reply_count, stated_replies}
use Rattle.lane_audit.proofs.Chunks.{length-first_chunks}

-- the first chunks are in the front
first_chunks-take : {X : Type 0} (n k m : ℕ) (xs : List X) → m ≡ k * n → first_chunks n k (take m xs) ≡ first_chunks n k xs
first_chunks-take n zero m xs is = refl
first_chunks-take n (suc k) m xs is =
    let whole : m ≡ n + k * n = omega arith in
    ap₂ ◌∷◌ (take-take n m xs (omega arith))
    (ap (first_chunks n k) (ap (λ j. drop n (take j xs)) whole ∙ drop-take n (k * n) xs) ∙ first_chunks-take n k (k * n) (drop n xs) refl)

-- the chunks of a front are the first chunks of the list
chunks_of_front : {X : Type 0} (n k m : ℕ) (xs : List X) → 0 < n → m ≡ k * n → m ≤ length xs
    → first_chunks n (length (take m xs) / n) (take m xs) ≡ first_chunks n k xs
chunks_of_front n k m xs some is within =
    let count : length (take m xs) / n ≡ k = ap (λ j. j / n) (length-take-le m xs within ∙ is) ∙ mul-div_cancel k some in
    ap (λ j. first_chunks n j (take m xs)) count ∙ first_chunks-take n k m xs is

pub length-amounts : (k : ℕ) (bytes : List ℕ) → length (amounts_at k bytes) ≡ k
length-amounts k bytes = length-map (first_chunks 8 k bytes) stated_amount ∙ length-first_chunks 8 k bytes

-- the chunks of a part after a place are the first chunks of everything after it
pub chunks_behind : (n from count : ℕ) (bytes : List ℕ) → 0 < n → from + n * count ≤ length bytes
    → let part = take ((from + n * count) - from) (drop from bytes) in
    first_chunks n (length part / n) part ≡ first_chunks n count (drop from bytes)
chunks_behind n from count bytes some room =
    let whole : from + n * count - from ≡ count * n = omega (arith, mul_comm n count) in
    chunks_of_front n count (from + n * count - from) (drop from bytes) some whole (omega (arith, length-drop from bytes))

-- the first chunk of everything after a place
pub rest_has_chunk : (n from : ℕ) (bytes : List ℕ) → from + n ≤ length bytes → n ≤ length (take (length bytes - from) (drop from bytes))
rest_has_chunk n from bytes room =
    let whole : length bytes - from ≤ length (drop from bytes) = omega (arith, length-drop from bytes) in
    omega (arith, room, length-take-le (length bytes - from) (drop from bytes) whole)

pub first_of_rest : (n from : ℕ) (bytes : List ℕ) (found : Option (Bor (List ℕ))) (chunk : Bor (List ℕ)) → from + n ≤ length bytes
    → (let rest = take (length bytes - from) (drop from bytes) in
    MatchOption found (length rest < n) (λ cells. IsFirstChunk rest cells.now n))
    → found ≡ Some chunk → chunk.now ≡ take n (drop from bytes)
first_of_rest n from bytes None chunk room is e = absurd cc
first_of_rest n from bytes (Some cells) chunk room is e =
    let same : cells ≡ chunk = cc in
    ap (λ (cells : Bor (List ℕ)). cells.now) (sym same) ∙ is.same ∙ take-take n (length bytes - from) (drop from bytes) (omega (arith, room))

pub reply_chunks : (layout : Layout) (bytes : List ℕ) (customers count : ℕ) → customers ≡ stated_customers bytes → count ≡ stated_reply_count bytes
    → map stated_reply (first_chunks 9 count (drop (empty_size layout + 16 * customers) bytes)) ≡ stated_replies layout bytes
reply_chunks layout bytes customers count same_customers same_count =
    ap (λ n. map stated_reply (first_chunks 9 n (drop (empty_size layout + 16 * customers) bytes))) same_count
    ∙ ap (λ n. map stated_reply (first_chunks 9 (stated_reply_count bytes) (drop (empty_size layout + 16 * n) bytes))) same_customers
