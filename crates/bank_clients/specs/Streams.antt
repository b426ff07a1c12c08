-- The stream of a client who is served alone.
use Rattle.std.specs.Prelude.{ℕ, Bool, Option, List}

-- what is known of a client's stream: what is still to be read from it, and what was written to it;
-- whether its end was read; and whether its connection failed
pub record StreamOf : Type 0 where
  pub remaining : Option (List ℕ)
  pub contents : Option (List ℕ)
  pub ended : Bool
  pub failed : Bool
