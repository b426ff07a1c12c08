-- How often a number occurs.
use Rattle.std.specs.Prelude.{ℕ, ◌==◌, List, count_by}

-- how often a number occurs in a list
abbrev pub occurrences : ℕ → List ℕ → ℕ
occurrences number numbers = count_by (λ other. other == number) numbers
