-- A test of positions, and one position more.
use Rattle.std.specs.Prelude.{ℕ, Bool, ◌||◌, ◌==◌}

-- f holds, or it is this position
abbrev pub with_position : (ℕ → Bool) → ℕ → ℕ → Bool
with_position f position j = f j || (j == position)
