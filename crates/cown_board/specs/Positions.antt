-- Positions in a list, counted from 0, at which a test holds.
use Rattle.std.specs.Prelude.{ℕ, zero, suc, Bool, true, not, ◌&&◌, if◌then◌else◌, List, [], ◌∷◌, ◌++◌}

-- the positions below m at which f holds, in rising order (by recursion, because the proofs take
-- the same steps)
abbrev pub positions : (ℕ → Bool) → ℕ → List ℕ
positions f zero = []
positions f (suc m) = positions f m ++ (if f m then m ∷ [] else [])

-- f holds at no position below m
abbrev pub none_below : (ℕ → Bool) → ℕ → Bool
none_below f zero = true
none_below f (suc m) = none_below f m && not (f m)
