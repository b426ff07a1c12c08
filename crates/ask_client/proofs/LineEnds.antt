-- Where the lines of a text end that goes on.
use Rattle.std.proofs.Common.{◌≡◌, ℕ, ◌+◌, ◌<◌, Bool, true, false, Some, None, List, [], ◌∷◌, ◌++◌, length, take, drop, refl, sym, ap, ◌∙◌, arith, length-append, append-nil}
use Rattle.std.specs.Prelude.{◌≢◌}
use Rattle.std.specs.List.{position_or_len}
use Rattle.std.proofs.lemmas.List.{get_or_append_left, take-append-le, drop-append-le}
use Rattle.std.proofs.lemmas.List.Sums.{position_or_len_is, fails_before_first}
use Rattle.std.proofs.Math.Seq.{drop-append-add, get_or-append_seam, take-append_seam}
use Rattle.memchr.specs.Find.{IsFirstByte}
use Rattle.sb_rows.specs.Text.{is_line_feed, lines}
use Rattle.sb_rows.proofs.SplitAtFirstByte.{lines-at, lines-nil, lines-one, nothing_found}
use Rattle.ask_client.specs.inner.Reading.{HasNoLineEnd, last_lines, missing_end}

not_true : (b : Bool) → (b ≡ true → ⊥) → b ≡ false
not_true true h = absurd (h refl)
not_true false h = refl

-- the first line feed stays the first one
feed_at : (text more : List ℕ) (k : ℕ) → IsFirstByte is_line_feed text (Some k) → position_or_len is_line_feed (text ++ more) ≡ k
feed_at text more k h =
    let within : k < length text = h.0.high in
    position_or_len_is is_line_feed (text ++ more) k 0 (omega (arith, length-append text more))
    (λ j l. ap is_line_feed (get_or_append_left text more 0 j (omega arith)) ∙ not_true _ (h.0.before j (omega arith) l))
    (λ l. ap is_line_feed (get_or_append_left text more 0 k within) ∙ h.1)

-- the first line of a text that goes on
pub lines_split : (text more : List ℕ) (k : ℕ) → IsFirstByte is_line_feed text (Some k)
    → lines (text ++ more) ≡ take k text ∷ lines (drop (k + 1) text ++ more)
lines_split text more k h =
    let within : k < length text = h.0.high in
    lines-at (text ++ more) k (omega (arith, length-append text more)) (feed_at text more k h)
    ∙ ap (λ (line : List ℕ). line ∷ lines (drop (k + 1) (text ++ more))) (take-append-le k text more (omega arith))
    ∙ ap (λ (rest : List ℕ). take k text ∷ lines rest) (drop-append-le (k + 1) text more (omega arith))

-- where there was no line feed, the first one is the one that is added
added_end : (text more : List ℕ) → HasNoLineEnd text → position_or_len is_line_feed (text ++ 10 ∷ more) ≡ length text
added_end text more none =
    position_or_len_is is_line_feed (text ++ 10 ∷ more) (length text) 0 (omega (arith, length-append text (10 ∷ more)))
    (λ j l. ap is_line_feed (get_or_append_left text (10 ∷ more) 0 j l) ∙ fails_before_first is_line_feed text j 0 (rw none l))
    (λ l. ap is_line_feed (get_or-append_seam text 10 more 0))

-- the last line is one that got its line feed
pub last_split : (text more : List ℕ) → HasNoLineEnd text → lines (text ++ (missing_end text ++ more)) ≡ last_lines text ++ lines more
last_split [] more none = refl
last_split (x ∷ xs) more none =
    let text = x ∷ xs in
    lines-at (text ++ 10 ∷ more) (length text) (omega (arith, length-append text (10 ∷ more))) (added_end text more none)
    ∙ ap (λ (line : List ℕ). line ∷ lines (drop (length text + 1) (text ++ 10 ∷ more))) (take-append_seam text (10 ∷ more))
    ∙ ap (λ (rest : List ℕ). text ∷ lines rest) (drop-append-add text (10 ∷ more) 1)

-- the last line may lack its line feed
pub last_line : (text : List ℕ) → HasNoLineEnd text → lines text ≡ lines (text ++ missing_end text)
last_line [] none = refl
last_line (x ∷ xs) none =
    let text = x ∷ xs in
    lines-one text none (omega arith) ∙ ap (λ (rest : List (List ℕ)). text ∷ rest) (sym (lines-nil [] refl))
    ∙ sym (last_split text [] none) ∙ ap lines (ap (λ (l : List ℕ). text ++ l) (append-nil (10 ∷ [])))

-- a text that isn't empty has a last line
pub one_last : (text : List ℕ) → text ≢ [] → last_lines text ≡ text ∷ []
one_last [] some = absurd (some refl)
one_last (x ∷ xs) some = refl

-- the search found no line feed
pub no_end : (text : List ℕ) → IsFirstByte is_line_feed text None → HasNoLineEnd text
no_end text none = nothing_found is_line_feed text none
