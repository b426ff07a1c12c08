-- What putting a field does to a vector with room for it.
use Rattle.std.specs.Prelude.{◌≡◌, ℕ, ◌+◌, ◌≤◌, ◌++◌, List, Vec, vec_len, vec_capacity}
use Rattle.std.specs.declared.alloc.Global.{Global}

-- these bytes, so many, stand behind the old ones, and the vector's capacity is no less
pub record PutsField (old : Vec ℕ Global) (bytes : List ℕ) (size : ℕ) (new : Vec ℕ Global) : Type 0 where
  pub items : new.items ≡ old.items ++ bytes
  pub len : vec_len new ≡ vec_len old + size
  pub room : vec_capacity old ≤ vec_capacity new
