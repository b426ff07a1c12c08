-- Lines appended to a text.
use Rattle.std.specs.Prelude.{◌≡◌, ℕ, List, ◌++◌}
use Rattle.sb_rows.specs.Text.{unlines}

-- these lines stand behind the old bytes
abbrev pub AddsLines : List ℕ → List (List ℕ) → List ℕ → Type 0
AddsLines old added new = new ≡ old ++ unlines added
