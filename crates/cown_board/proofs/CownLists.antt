-- Lists of cowns, one after the other.
use Rattle.std.proofs.Common.{◌≡◌, ℕ, ◌<◌, true, List, [], ◌∷◌, refl}
use Rattle.std.specs.Prelude.{◌==◌}
use Rattle.std.proofs.lemmas.Bool.{or_left, or_right, eq-eqb}
use Rattle.sb_calls.specs.Cowns.{AreBelow}
use Rattle.sb_calls.specs.SerialRun.{is_among}

pub below_from : (bound : ℕ) (cowns : List ℕ) → ((cown : ℕ) → is_among cown cowns ≡ true → cown < bound) → AreBelow bound cowns
below_from bound [] h = tt
below_from bound (c ∷ cowns) h = (
  h c (or_left (c == c) (is_among c cowns) (eq-eqb c c refl)),
  below_from bound cowns
      (λ cown among. h cown (or_right (cown == c) (is_among cown cowns) among)),
)
