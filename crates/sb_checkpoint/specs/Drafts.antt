-- A checkpoint that still lacks replies, as callers see it.
use Rattle.std.specs.Prelude.{ℕ, List}

-- the bytes so far, and the number of missing replies
pub record DraftOf : Type 0 where
  pub bytes : List ℕ
  pub missing : ℕ
