-- A file that is copied piece by piece.
use Rattle.std.proofs.Common.{min, length-drop, ◌≡◌, ◌++◌, ◌∙◌, ◌+◌, ◌-◌, ◌≤◌, ℕ, List, [], ap, sym, subst, drop, length, arith}
use Rattle.std.specs.Prelude.{Option, take}
use Rattle.std.specs.Io.KnownBytes.{Appends}
use Rattle.std.proofs.KnownBytes.{Appends-trans}
use Rattle.std.proofs.Math.Seq.{take-add, take-length}
use Rattle.std.proofs.lemmas.Grind.{common_steps}
use Rattle.std.proofs.lemmas.List.{drop-drop, length-take}

-- the front of a list, taken by its own length
front_again : (most : ℕ) (xs : List ℕ) → take (length (take most xs)) xs ≡ take most xs
front_again most xs = grind (arith, common_steps)

front_within : (most k : ℕ) (xs : List ℕ) → k ≤ length xs → k + length (take most (drop k xs)) ≤ length xs
front_within most k xs within = grind (arith, common_steps)

-- the piece behind the first ones joins them
pub piece_joins : (most k : ℕ) (xs piece : List ℕ) (old mid new : Option (List ℕ)) → k ≤ length xs → piece ≡ take most (drop k xs)
    → Appends old mid (take k xs) → Appends mid new piece
    → (k + length piece ≤ length xs) × Appends old new (take (k + length piece) xs)
piece_joins most k xs piece old mid new within is before then = (
  subst (λ (p : List ℕ). k + length p ≤ length xs) (sym is) (front_within most k xs within),
  subst (λ (l : List ℕ). Appends old new l)
      (ap (λ (l : List ℕ). take k xs ++ l) (is ∙ sym (front_again most (drop k xs)) ∙ ap (λ (p : List ℕ). take (length p) (drop k xs)) (sym is))
      ∙ sym (take-add k (length piece) xs))
      (Appends-trans old mid new (take k xs) piece before then),
)

-- by places in the file: so far all between the two places was copied, and the piece at the second one joins it
pub moved_on : (content piece : List ℕ) (most from at next : ℕ) (old mid new : Option (List ℕ)) → from ≤ at
    → at - from ≤ length (drop from content) → piece ≡ take most (drop at content) → next ≡ at + length piece
    → Appends old mid (take (at - from) (drop from content)) → Appends mid new piece
    → (next - from ≤ length (drop from content)) × Appends old new (take (next - from) (drop from content))
moved_on content piece most from at next old mid new behind within is next_is before then =
    let places : at ≡ from + (at - from) = omega arith in
    let step : next - from ≡ (at - from) + length piece = omega arith in
    let there : piece ≡ take most (drop (at - from) (drop from content)) =
    is ∙ ap (take most) (ap (λ (n : ℕ). drop n content) places ∙ sym (drop-drop (at - from) from content)) in
    subst (λ (n : ℕ). (n ≤ length (drop from content)) × Appends old new (take n (drop from content))) (sym step)
    (piece_joins most (at - from) (drop from content) piece old mid new within there before then)

-- and if no piece is there all is copied
pub moved_all : (content : List ℕ) (from at : ℕ) (old new : Option (List ℕ)) → from ≤ at
    → at - from ≤ length (drop from content) → take 65536 (drop at content) ≡ []
    → Appends old new (take (at - from) (drop from content))
    → (at - from ≡ length (drop from content)) × Appends old new (drop from content)
moved_all content from at old new behind within none moved =
    let behind_all : min 65536 (length (drop at content)) ≡ 0 = sym (length-take 65536 (drop at content)) ∙ ap length none in
    let count : at - from ≡ length (drop from content) =
    grind (arith, behind_all, within, behind, length-drop at content, length-drop from content) in (
      count,
      subst (λ (l : List ℕ). Appends old new l)
          (ap (λ (n : ℕ). take n (drop from content)) count ∙ take-length (drop from content)) moved,
    )
