-- The rest of an input that is no whole line yet.
use Rattle.std.specs.Prelude.{◌≡◌, ℕ, List, [], ◌∷◌, length}
use Rattle.std.specs.List.{position_or_len}
use Rattle.sb_rows.specs.Text.{is_line_feed}

-- no line ends in these bytes
abbrev pub HasNoLineEnd : List ℕ → Type 0
HasNoLineEnd bytes = position_or_len is_line_feed bytes ≡ length bytes

-- the line feed that the last line of an input may lack
abbrev pub missing_end : List ℕ → List ℕ
missing_end [] = []
missing_end (byte ∷ bytes) = 10 ∷ []

-- a last line without its line feed, if there is one
abbrev pub last_lines : List ℕ → List (List ℕ)
last_lines [] = []
last_lines (byte ∷ bytes) = (byte ∷ bytes) ∷ []
