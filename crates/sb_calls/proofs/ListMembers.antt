-- The members of a list, one by one.
use Rattle.std.proofs.Common.{◌≡◌, zero, suc, ◌⊎◌, inl, inr, List, [], ◌∷◌, arith}
use Rattle.std.specs.List.{Contains}

-- one of a list
abbrev pub IsOneOf : {X : Type 0} → List X → X → Type 0
IsOneOf [] x = ⊥
IsOneOf (y ∷ ys) x = (y ≡ x) ⊎ IsOneOf ys x

pub one_from_Contains : {X : Type 0} (xs : List X) (x : X) → Contains xs x → IsOneOf xs x
one_from_Contains [] x (k, lt, is) = absurd (omega arith)
one_from_Contains (y ∷ ys) x (zero, lt, is) = inl is
one_from_Contains (y ∷ ys) x (suc k, lt, is) = inr (one_from_Contains ys x (k, omega arith, is))

pub Contains-from_one : {X : Type 0} (xs : List X) (x : X) → IsOneOf xs x → Contains xs x
Contains-from_one [] x one = absurd one
Contains-from_one (y ∷ ys) x (inl is) = (0, omega arith, is)
Contains-from_one (y ∷ ys) x (inr one) = let rest = Contains-from_one ys x one in (suc rest.0, omega arith, rest.2)
