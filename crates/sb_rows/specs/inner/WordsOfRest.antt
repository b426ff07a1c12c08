-- The words of a line after some were taken.
use Rattle.std.specs.Prelude.{ℕ, Option, Some, None, List, []}
use Rattle.sb_rows.specs.Text.{words}

-- the words of the text after a word, if there is one
abbrev pub words_of_rest : Option (List ℕ) → List (List ℕ)
words_of_rest None = []
words_of_rest (Some rest) = words rest
