-- How a text is split at the first byte that a search found.
use Rattle.std.proofs.Common.{◌≡◌, ℕ, suc, ◌+◌, ◌-◌, ◌<◌, Bool, true, false, Some, None, List, [], ◌∷◌, length, take, drop, refl, ap, ◌∙◌, arith, ne_eqb}
use Rattle.std.specs.List.{slice_split, position_or_len}
use Rattle.std.proofs.lemmas.Grind.{common_steps}
use Rattle.std.proofs.lemmas.List.Sums.{position_or_len_is, fails_before_first}
use Rattle.std.proofs.lemmas.List.Splits.{slice_split_none, slice_split_first, length-slice_split}
use Rattle.std.proofs.lemmas.List.Elements.{All-from_get_or}
use Rattle.memchr.specs.Find.{IsFirstByte}
use Rattle.sb_rows.specs.Text.{lines, words, is_line_feed, is_space, without_empty_last}

-- a test that isn't true is false
not_true : (b : Bool) → (b ≡ true → ⊥) → b ≡ false
not_true true h = absurd (h refl)
not_true false h = refl

-- the search found no byte
pub nothing_found : (test : ℕ → Bool) (bytes : List ℕ) → IsFirstByte test bytes None → position_or_len test bytes ≡ length bytes
nothing_found test bytes h =
    position_or_len_is test bytes (length bytes) 0 (omega arith) (λ k l. not_true _ (h k (omega arith) l)) (λ l. absurd (omega arith))

-- the search found the byte at k
pub found_first : (test : ℕ → Bool) (bytes : List ℕ) (k : ℕ) → IsFirstByte test bytes (Some k) → position_or_len test bytes ≡ k
found_first test bytes k h =
    let within : k < length bytes = h.0.high in
    position_or_len_is test bytes k 0 (omega arith) (λ j l. not_true _ (h.0.before j (omega arith) l)) (λ l. h.1)

-- a list in which no byte passes is one piece
split_whole : (test : ℕ → Bool) (bytes : List ℕ) → position_or_len test bytes ≡ length bytes → slice_split test bytes ≡ bytes ∷ []
split_whole test bytes e =
    slice_split_none test bytes (All-from_get_or (λ x. test x ≡ false) bytes 0 (λ i l. fails_before_first test bytes i 0 (rw e l)))

-- the first piece ends at the first byte that passes
split_first : (test : ℕ → Bool) (bytes : List ℕ) (k : ℕ) → k < length bytes → position_or_len test bytes ≡ k
    → slice_split test bytes ≡ take k bytes ∷ slice_split test (drop (k + 1) bytes)
split_first test bytes k l e = rw (← e) (slice_split_first test bytes 0 (rw e l))

-- the rest of a list, as a range to its end cuts it
pub to_end : {X : Type 0} (xs : List X) (k : ℕ) → take (length xs - k) (drop k xs) ≡ drop k xs
to_end xs k = grind (arith, common_steps)

-- the first piece stays if another follows
keeps_first : (x : List ℕ) (pieces : List (List ℕ)) (n : ℕ) → length pieces ≡ n + 1
    → without_empty_last (x ∷ pieces) ≡ x ∷ without_empty_last pieces
keeps_first x [] n h = absurd (omega arith)
keeps_first x (p ∷ ps) n h = refl

-- a text with a line feed has the line before it, and the lines after it
pub lines-at : (text : List ℕ) (k : ℕ) → k < length text → position_or_len is_line_feed text ≡ k
    → lines text ≡ take k text ∷ lines (drop (k + 1) text)
unfolding lines
lines-at text k l e =
    ap without_empty_last (split_first is_line_feed text k l e)
    ∙ keeps_first (take k text) (slice_split is_line_feed (drop (k + 1) text)) _ (length-slice_split is_line_feed (drop (k + 1) text))

-- a text without one is one line, unless it is empty
pub lines-one : (text : List ℕ) → position_or_len is_line_feed text ≡ length text → 0 < length text → lines text ≡ text ∷ []
unfolding lines
lines-one [] e l = absurd (omega arith)
lines-one (x ∷ xs) e l = ap without_empty_last (split_whole is_line_feed (x ∷ xs) e) ∙ rw (ne_eqb (suc (length xs)) 0 (λ z. omega arith)) refl

-- the same for what a search found
pub lines-first : (text : List ℕ) (k : ℕ) → IsFirstByte is_line_feed text (Some k)
    → lines text ≡ take k text ∷ lines (drop (k + 1) text)
lines-first text k h = lines-at text k h.0.high (found_first is_line_feed text k h)

-- and if it found nothing
pub lines-whole : (text : List ℕ) → IsFirstByte is_line_feed text None → 0 < length text → lines text ≡ text ∷ []
lines-whole text h l = lines-one text (nothing_found is_line_feed text h) l

-- an empty text has no lines
pub lines-nil : (text : List ℕ) → length text ≡ 0 → lines text ≡ []
unfolding lines
lines-nil [] h = refl
lines-nil (x ∷ xs) h = absurd (omega arith)

-- a line with a space has the word before it, and the words after it
pub words-at : (line : List ℕ) (k : ℕ) → k < length line → position_or_len is_space line ≡ k
    → words line ≡ take k line ∷ words (drop (k + 1) line)
unfolding words
words-at line k l e = split_first is_space line k l e

-- a line without a space is one word
pub words-one : (line : List ℕ) → position_or_len is_space line ≡ length line → words line ≡ line ∷ []
unfolding words
words-one line e = split_whole is_space line e

-- the same for what a search found
pub words-first : (line : List ℕ) (k : ℕ) → IsFirstByte is_space line (Some k)
    → words line ≡ take k line ∷ words (drop (k + 1) line)
words-first line k h = words-at line k h.0.high (found_first is_space line k h)

-- and if it found nothing
pub words-whole : (line : List ℕ) → IsFirstByte is_space line None → words line ≡ line ∷ []
words-whole line h = words-one line (nothing_found is_space line h)
