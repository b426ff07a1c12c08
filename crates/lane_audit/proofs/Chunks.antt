-- A column as whole blocks and a rest.
use Rattle.std.proofs.Common.{◌≡◌, ℕ, zero, suc, ◌+◌, ◌*◌, ◌<◌, ℤ, List, [], ◌++◌, length, get_or, take, drop, refl, sym, ap, ◌∙◌, arith}
use Rattle.std.proofs.Math.Seq.{take-add}
use Rattle.std.proofs.lemmas.List.{flat_map_more, take_more}
use Rattle.std.proofs.lemmas.List.Elements.{All-take, All-drop}
use Rattle.std.proofs.lemmas.Simd.{Each1-get_or}
use Rattle.std.specs.List.{All, flat_map}
use Rattle.std.specs.Simd.{first_chunks}
use lib.Lanes.{Each1}

-- blocks one after another
abbrev pub joined : List (List ℤ) → List ℤ
joined blocks = flat_map (λ block. block) blocks

-- the first blocks of a column are its front
pub joined-first_chunks : (n k : ℕ) (xs : List ℤ) → joined (first_chunks n k xs) ≡ take (k * n) xs
joined-first_chunks n zero xs = let none : 0 ≡ 0 * n = omega arith in ap (λ m. take m xs) none
joined-first_chunks n (suc k) xs =
    ap (λ rest. take n xs ++ rest) (joined-first_chunks n k (drop n xs)) ∙ sym (take-add n (k * n) xs) ∙ ap (λ m. take m xs) (omega arith)

-- one more block
pub joined_more : (blocks : List (List ℤ)) (i : ℕ) → i < length blocks → joined (take i blocks) ++ get_or blocks i [] ≡ joined (take (i + 1) blocks)
joined_more blocks i inside =
    flat_map_more (λ block. block) [] (take i blocks) (get_or blocks i []) ∙ ap joined (sym (take_more blocks i [] inside))

-- what holds for each value of a column holds for those of its blocks
fits_chunks : (P : ℤ → Type 0) (n k : ℕ) (xs : List ℤ) → All P xs → Each1 (All P) (first_chunks n k xs)
fits_chunks P n zero xs fits = tt
fits_chunks P n (suc k) xs fits = (All-take P n xs fits, fits_chunks P n k (drop n xs) (All-drop P n xs fits))

pub blocks_fit : (P : ℤ → Type 0) (n k : ℕ) (xs : List ℤ) → All P xs → All (All P) (first_chunks n k xs)
blocks_fit P n k xs fits i d inside = Each1-get_or (All P) (first_chunks n k xs) i d inside (fits_chunks P n k xs fits)

pub length-first_chunks : {X : Type 0} (n k : ℕ) (xs : List X) → length (first_chunks n k xs) ≡ k
length-first_chunks n zero xs = refl
length-first_chunks n (suc k) xs = ap suc (length-first_chunks n k (drop n xs))
