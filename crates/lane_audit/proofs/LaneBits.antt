-- A vector's lanes and their bits, lane by lane.
use Rattle.std.proofs.Common.{◌≡◌, ℕ, zero, suc, ◌+◌, ◌*◌, ◌-◌, ◌^◌, ◌%◌, ◌≤◌, ◌↔◌, ℤ, eqb, int_lt, Bool, true, false, not, cond, ◌||◌, List, [], ◌∷◌, map, length, replicate, refl, sym, ap, ap₂, ◌∙◌, subst, arith, w64, pos, take, drop, FitsSigned, to_z, of_z, bit_or, inl, inr}
use Rattle.std.proofs.lemmas.Bool.{not-true, not-false, not_from_false, or_parts, eqb-true, eq-eqb, ne_eqb, cases_eq}
use Rattle.std.proofs.lemmas.Int.{to_z-of_z}
use Rattle.std.proofs.lemmas.List.{length-map}
use Rattle.std.proofs.lemmas.Simd.{mask_l-mod, Each1-chunk, Each1-from_get_or}
use Rattle.std.specs.Int.{int_wrapping_add}
use Rattle.std.specs.List.{All, list_any}
use lib.Lanes.{Each1, zip2, mask_l, sel_l, top}
use Rattle.lane_audit.specs.Columns.{is_outside}

-- a lane of a mask
abbrev pub mask_of : Bool → ℕ
mask_of b = cond b (2 ^ 64 - 1) 0

-- a comparison of two values by their bits
abbrev pub lt_bits : ℕ → ℕ → Bool
lt_bits a b = int_lt (to_z w64 a) (to_z w64 b)

top-mask_of : (b : Bool) → top 63 (mask_of b) ≡ b
top-mask_of true = refl
top-mask_of false = refl

top-either_mask : (a b : Bool) → top 63 (bit_or (mask_of a) (mask_of b)) ≡ (a || b)
top-either_mask true true = refl
top-either_mask true false = refl
top-either_mask false true = refl
top-either_mask false false = refl

lt_bits_is : (x y : ℤ) → FitsSigned w64 x → FitsSigned w64 y → lt_bits (of_z w64 x) (of_z w64 y) ≡ int_lt x y
lt_bits_is x y f g = ap₂ int_lt (to_z-of_z w64 x f) (to_z-of_z w64 y g)

-- addition lane by lane is wrapping addition of the values
pub added_lanes : (xs ys : List ℤ) → map (to_z w64) (zip2 (λ a b. (a + b) % 2 ^ 64) (map (of_z w64) xs) (map (of_z w64) ys)) ≡ zip2 (int_wrapping_add w64) xs ys
added_lanes [] ys = refl
added_lanes (x ∷ xs) [] = refl
added_lanes (x ∷ xs) (y ∷ ys) = ap (λ zs. int_wrapping_add w64 x y ∷ zs) (added_lanes xs ys)

module _ (low : ℤ) (low_fits : FitsSigned w64 low) where
  -- adding 1 at each lane of a mask counts the values below low
  pub counted_lanes : (counts : List ℕ) (xs : List ℤ) (n : ℕ) → length xs ≡ n → Each1 (FitsSigned w64) xs
      → zip2 (λ a b. (a + b) % 2 ^ 64) counts
      (sel_l (map (top 63) (zip2 (λ a b. mask_of (lt_bits a b)) (map (of_z w64) xs) (replicate n (of_z w64 low)))) (replicate n 1) (replicate n 0))
      ≡ zip2 (λ count value. (count + cond (int_lt value low) 1 0) % 2 ^ 64) counts xs
  counted_lanes [] xs n long fits = refl
  counted_lanes (count ∷ counts) [] n long fits = refl
  counted_lanes (count ∷ counts) (x ∷ xs) zero long fits = absurd (omega (arith, long))
  counted_lanes (count ∷ counts) (x ∷ xs) (suc n) long fits =
      ap₂ (λ b rest. ((count + cond b 1 0) % 2 ^ 64) ∷ rest) (top-mask_of _ ∙ lt_bits_is x low fits.0 low_fits)
      (counted_lanes counts xs n (omega (arith, long)) fits.1)

  module _ (high : ℤ) (high_fits : FitsSigned w64 high) where
    -- the lanes set in one of two masks are those of values outside
    pub outside_lanes : (xs : List ℤ) (n : ℕ) → length xs ≡ n → Each1 (FitsSigned w64) xs
        → map (top 63) (zip2 bit_or (zip2 (λ a b. mask_of (lt_bits a b)) (map (of_z w64) xs) (replicate n (of_z w64 low)))
        (zip2 (λ a b. mask_of (lt_bits a b)) (replicate n (of_z w64 high)) (map (of_z w64) xs)))
        ≡ map (is_outside low high) xs
    outside_lanes [] zero long fits = refl
    outside_lanes [] (suc n) long fits = refl
    outside_lanes (x ∷ xs) zero long fits = absurd (omega (arith, long))
    outside_lanes (x ∷ xs) (suc n) long fits =
        ap₂ (λ b (rest : List Bool). b ∷ rest)
        (top-either_mask _ _ ∙ ap₂ (λ a b. a || b) (lt_bits_is x low fits.0 low_fits) (lt_bits_is high x high_fits fits.0))
        (outside_lanes xs n (omega (arith, long)) fits.1)

-- the lanes of two vectors that differ
abbrev pub unequal_lanes : List ℤ → List ℤ → List Bool
unequal_lanes xs ys = map (top 63) (zip2 (λ a b. mask_of (not (eqb a b))) (map (of_z w64) xs) (map (of_z w64) ys))

length-unequal_lanes : (xs ys : List ℤ) → length (unequal_lanes xs ys) ≤ length xs
length-unequal_lanes [] ys = omega arith
length-unequal_lanes (x ∷ xs) [] = omega arith
length-unequal_lanes (x ∷ xs) (y ∷ ys) = omega (arith, length-unequal_lanes xs ys)

-- if no lane differs, the values are the same; the converse follows
same_without_unequal : (xs ys : List ℤ) → length xs ≡ length ys → Each1 (FitsSigned w64) xs → Each1 (FitsSigned w64) ys
    → list_any (λ b. b) (unequal_lanes xs ys) ≡ false → xs ≡ ys
same_without_unequal [] [] long f g none = refl
same_without_unequal [] (y ∷ ys) long f g none = absurd (omega (arith, long))
same_without_unequal (x ∷ xs) [] long f g none = absurd (omega (arith, long))
same_without_unequal (x ∷ xs) (y ∷ ys) long f g none =
    let parts = or_parts _ _ none in
    let bits = eqb-true _ _ (not-false _ (sym (top-mask_of _) ∙ parts.0)) in
    ap₂ (λ z (zs : List ℤ). z ∷ zs) (sym (to_z-of_z w64 x f.0) ∙ ap (to_z w64) bits ∙ to_z-of_z w64 y g.0)
    (same_without_unequal xs ys (omega (arith, long)) f.1 g.1 parts.1)

no_unequal : (xs : List ℤ) → list_any (λ b. b) (unequal_lanes xs xs) ≡ false
no_unequal [] = refl
no_unequal (x ∷ xs) = ap₂ (λ a b. top 63 (mask_of (not a)) || b) (eq-eqb (of_z w64 x) (of_z w64 x) refl) (no_unequal xs)

doubled : (n : ℕ) → eqb (0 + 2 * n) 0 ≡ eqb n 0
doubled n =
    elim (cases_eq n 0) [
      | inl none ↦ eq-eqb (0 + 2 * n) 0 (omega (arith, none)) ∙ sym (eq-eqb n 0 none)
      | inr some ↦ ne_eqb (0 + 2 * n) 0 (λ h. some (omega (arith, h))) ∙ sym (ne_eqb n 0 some)
    ]

-- a mask isn't 0 exactly if a lane is set
set_by_lane : (bs : List Bool) → not (eqb (mask_l bs) 0) ≡ list_any (λ b. b) bs
set_by_lane [] = refl
set_by_lane (true ∷ bs) = not_from_false _ (ne_eqb (1 + 2 * mask_l bs) 0 (λ h. absurd (omega (arith, h))))
set_by_lane (false ∷ bs) = ap not (doubled (mask_l bs)) ∙ set_by_lane bs

any_lane : (bs : List Bool) → length bs ≤ 64 → not (eqb (mask_l bs % 2 ^ 64) 0) ≡ list_any (λ b. b) bs
any_lane bs few = ap (λ n. not (eqb n 0)) (mask_l-mod bs 64 few) ∙ set_by_lane bs

list_any-map : (p : ℤ → Bool) (xs : List ℤ) → list_any (λ b. b) (map p xs) ≡ list_any p xs
list_any-map p [] = refl
list_any-map p (x ∷ xs) = ap (λ b. p x || b) (list_any-map p xs)

-- the values of a column fit, one by one and in a block
pub fits_each : (xs : List ℤ) → All (FitsSigned w64) xs → Each1 (FitsSigned w64) xs
fits_each xs fits = Each1-from_get_or (FitsSigned w64) xs (pos 0) (λ k h. fits k (pos 0) h)

pub fits_block : (i n : ℕ) (xs : List ℤ) → All (FitsSigned w64) xs → Each1 (FitsSigned w64) (take n (drop i xs))
fits_block i n xs fits = Each1-chunk (FitsSigned w64) i n xs (fits_each xs fits)

-- a mask of the values that pass a test isn't 0 exactly if one passes
pub any_mask : (p : ℤ → Bool) (xs : List ℤ) {bs : List Bool} → length xs ≤ 64 → bs ≡ map p xs → not (eqb (mask_l bs % 2 ^ 64) 0) ≡ list_any p xs
any_mask p xs few is = ap (λ ms. not (eqb (mask_l ms % 2 ^ 64) 0)) is ∙ any_lane (map p xs) (omega (arith, length-map xs p, few)) ∙ list_any-map p xs

-- the mask of lanes that differ is 0 exactly if the two blocks are the same
pub same_block : (xs ys : List ℤ) → length xs ≡ 8 → length ys ≡ 8 → Each1 (FitsSigned w64) xs → Each1 (FitsSigned w64) ys
    → (not (not (eqb (mask_l (unequal_lanes xs ys) % 2 ^ 64) 0)) ≡ true) ↔ (xs ≡ ys)
same_block xs ys left right f g =
    let any = any_lane (unequal_lanes xs ys) (omega (arith, length-unequal_lanes xs ys, left)) in (
      λ h. same_without_unequal xs ys (left ∙ sym right) f g (sym any ∙ not-true _ h),
      λ e. not_from_false _ (any ∙ subst (λ zs. list_any (λ b. b) (unequal_lanes xs zs) ≡ false) e (no_unequal xs)),
    )
