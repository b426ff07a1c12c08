-- The lines of a text and the words of a line.
use Rattle.std.specs.Prelude.{ℕ, zero, suc, ◌-◌, ◌==◌, Bool, if◌then◌else◌, List, [], ◌∷◌, ◌++◌, length}
use Rattle.std.specs.List.{slice_split, after_first, flat_map}

abbrev pub is_line_feed : ℕ → Bool
is_line_feed c = c == 10

abbrev pub is_space : ℕ → Bool
is_space c = c == 32

-- the pieces, without the last one if it is empty
abbrev pub without_empty_last : List (List ℕ) → List (List ℕ)
without_empty_last [] = []
without_empty_last (piece ∷ []) = if length piece == 0 then [] else piece ∷ []
without_empty_last (piece ∷ next ∷ pieces) = piece ∷ without_empty_last (next ∷ pieces)

-- the lines of a text: it is split at each line feed, and a last piece without one is a line unless
-- it is empty
unfoldable pub lines : List ℕ → List (List ℕ)
lines text = without_empty_last (slice_split is_line_feed text)

-- the words of a line: it is split at each single space
unfoldable pub words : List ℕ → List (List ℕ)
words line = slice_split is_space line

-- the text that has these lines, each ended by a line feed
abbrev pub unlines : List (List ℕ) → List ℕ
unlines ls = flat_map (λ line. line ++ 10 ∷ []) ls

-- a text without its first line
abbrev pub after_line : List ℕ → List ℕ
after_line text = after_first is_line_feed text

-- a text without its first n lines
abbrev pub after_lines : ℕ → List ℕ → List ℕ
after_lines zero text = text
after_lines (suc n) text = after_lines n (after_line text)

-- the number of bytes in the first n lines of a text
abbrev pub bytes_of_lines : ℕ → List ℕ → ℕ
bytes_of_lines n text = length text - length (after_lines n text)
