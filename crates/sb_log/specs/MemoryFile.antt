-- A file in memory.
use Rattle.std.specs.Prelude.{ℕ, Bool, List}

-- its bytes; how many of them are synced; how many the next sync reaches; whether it was refused memory for
-- more; and how many more bytes it takes before it needs more memory
pub record MemoryFileOf : Type 0 where
  pub content : List ℕ
  pub synced : ℕ
  pub syncable : ℕ
  pub failed : Bool
  pub room : ℕ
