-- What is left of a text after some of its lines.
use Rattle.std.proofs.Common.{◌≡◌, ℕ, zero, suc, ◌+◌, ◌-◌, ◌≤◌, not, inl, inr, List, [], ◌∷◌, ◌++◌, length, take, drop, refl, sym, ap, ◌∙◌, arith, length-drop, drop-drop, drop_of_length-le, le_antisymm}
use Rattle.std.specs.List.{position_or_len}
use Rattle.std.proofs.lemmas.Bool.{cases_lt}
use Rattle.std.proofs.lemmas.List.Sums.{prefix_len-le-length}
use Rattle.sb_rows.specs.Text.{lines, is_line_feed, after_line, after_lines, bytes_of_lines}
use Rattle.sb_rows.proofs.OpeningSteps.{after_lines-next}
use Rattle.sb_rows.proofs.SplitAtFirstByte.{lines-nil, lines-at, lines-one}

-- the lines after the first one are those of the text after it
lines-after_line : (text line : List ℕ) (ls : List (List ℕ)) → lines text ≡ line ∷ ls → lines (after_line text) ≡ ls
lines-after_line text line ls h =
    elim (cases_lt (position_or_len is_line_feed text) (length text)) [
      | inl l ↦ let e : line ∷ ls ≡ take (position_or_len is_line_feed text) text ∷ lines (after_line text) = sym h ∙ lines-at text _ l refl in cc
      | inr l ↦
          let whole : position_or_len is_line_feed text ≡ length text = le_antisymm (prefix_len-le-length (λ c. not (is_line_feed c)) text) l in
          let rest : after_line text ≡ [] = drop_of_length-le text (omega arith) in
          ap lines rest ∙ lines-nil [] refl ∙ sym (no_more text whole h)
    ]
  where
    no_more : (bytes : List ℕ) → position_or_len is_line_feed bytes ≡ length bytes → lines bytes ≡ line ∷ ls → ls ≡ []
    no_more [] e k = let none = lines-nil [] refl in cc
    no_more (x ∷ xs) e k = let one = lines-one (x ∷ xs) e (omega arith) in cc

-- the lines after the first ones are those of the text after them
pub lines-after_lines : (text : List ℕ) (first rest : List (List ℕ)) → lines text ≡ first ++ rest → lines (after_lines (length first) text) ≡ rest
lines-after_lines text [] rest h = h
lines-after_lines text (line ∷ ls) rest h = lines-after_lines (after_line text) ls rest (lines-after_line text line (ls ++ rest) h)

-- a text after some of its lines is an end of it
after_lines-drop : (n : ℕ) (text : List ℕ) → (k : ℕ) × (after_lines n text ≡ drop k text)
after_lines-drop zero text = (0, refl)
after_lines-drop (suc n) text =
    let before = after_lines-drop n text in
    let rest = drop before.0 text in (
      before.0 + (position_or_len is_line_feed rest + 1),
      after_lines-next n text ∙ ap after_line before.1
          ∙ drop-drop (position_or_len is_line_feed rest + 1) before.0 text,
    )

-- the end of a list is determined by its length
drop_back : (k : ℕ) (xs : List ℕ) → drop (length xs - length (drop k xs)) xs ≡ drop k xs
drop_back k xs =
    elim (cases_lt k (length xs)) [
      | inl l ↦ let back : length xs - length (drop k xs) ≡ k = omega (arith, length-drop k xs) in ap (λ n. drop n xs) back
      | inr l ↦ let back : length xs ≤ length xs - length (drop k xs) = omega (arith, length-drop k xs) in
          drop_of_length-le xs back ∙ sym (drop_of_length-le xs l)
    ]

-- the text after some lines starts after their bytes
pub drop-bytes_of_lines : (n : ℕ) (text : List ℕ) → drop (bytes_of_lines n text) text ≡ after_lines n text
drop-bytes_of_lines n text =
    let ends = after_lines-drop n text in
    ap (λ rest. drop (length text - length rest) text) ends.1 ∙ drop_back ends.0 text ∙ sym ends.1
