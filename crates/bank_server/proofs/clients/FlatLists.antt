-- Lists in which each item gives several.
use Rattle.std.proofs.Common.{◌≡◌, ℕ, zero, suc, ◌+◌, ◌<◌, List, [], ◌∷◌, ◌++◌, length, drop, sym, ap, ◌∙◌, arith}
use Rattle.std.specs.Prelude.{slice_index_or}
use Rattle.std.specs.List.{flat_map}

-- what the next item gives, and then what those behind it give
pub flat_map-drop : {A : Type 0} (f : A → List ℕ) (xs : List A) (k : ℕ) (x : A) → k < length xs → x ≡ slice_index_or xs k x
    → flat_map f (drop k xs) ≡ f x ++ flat_map f (drop (k + 1) xs)
flat_map-drop f [] k x lt is = absurd (omega (arith, lt))
flat_map-drop f (y ∷ xs) zero x lt is = ap (λ z. f z ++ flat_map f xs) (sym is)
flat_map-drop f (y ∷ xs) (suc k) x lt is =
    let next : suc k + 1 ≡ suc (k + 1) = omega arith in
    flat_map-drop f xs k x (omega (arith, lt)) is ∙ ap (λ n. f x ++ flat_map f (drop n (y ∷ xs))) (sym next)
