-- Totals of columns, and of lanes that wrap.
use Rattle.std.proofs.Common.{◌≡◌, ℕ, suc, ◌+◌, ◌*◌, ◌/◌, ◌^◌, ◌%◌, ◌<◌, ◌≤◌, ℤ, pos, neg_ℤ, ◌+ℤ◌, ◌≤ℤ◌, List, [], ◌∷◌, ◌++◌, map, take, drop, get_or, length, replicate, refl, sym, ap, ap₂, ◌∙◌, subst, arith, w64, FitsSigned, to_z, of_z}
use Rattle.std.proofs.lemmas.Int.{ints, to_z-of_z, int_wrap_fits, int_wrap-add_left, wrapping_add_is, wrapping_add_onto}
use Rattle.std.proofs.Math.Facts.{sfits_to_z}
use Rattle.std.proofs.lemmas.List.{get_or-drop, length-drop, length-take, take_more}
use Rattle.std.proofs.lemmas.List.Elements.{All-take}
use Rattle.std.proofs.lemmas.Nat.{mod_below}
use Rattle.std.proofs.lemmas.Simd.{length-zip2, Each1-from_get_or, Each1-replicate}
use Rattle.std.specs.Int.{int_wrap, int_wrapping_add}
use Rattle.std.specs.List.{All}
use Rattle.std.specs.Simd.{first_chunks}
use Rattle.sb_amount.specs.Limit.{IsWithinLimit}
use Rattle.lane_audit.specs.Columns.{total}
use Rattle.lane_audit.proofs.Chunks.{joined, joined-first_chunks}
use lib.Lanes.{Each1, Each2, zip2, fold_l}

pub total-append : (xs ys : List ℤ) → total (xs ++ ys) ≡ total xs +ℤ total ys
total-append [] ys = omega (arith, ints)
total-append (x ∷ xs) ys = omega (arith, ints, total-append xs ys)

-- a number within n times the limit, up or down
pub record IsBounded (n : ℕ) (z : ℤ) : Type 0 where
  pub at_least : neg_ℤ (pos (n * 1000000000000)) ≤ℤ z
  pub at_most : z ≤ℤ pos (n * 1000000000000)

total_bounded : (xs : List ℤ) → Each1 IsWithinLimit xs → IsBounded (length xs) (total xs)
total_bounded [] h = record { at_least = omega (arith, ints); at_most = omega (arith, ints) }
total_bounded (x ∷ xs) h =
    let rest = total_bounded xs h.1 in
    record { at_least = omega (arith, ints, h.0.at_least, rest.at_least); at_most = omega (arith, ints, h.0.at_most, rest.at_most) }

pub total-within : (xs : List ℤ) → All IsWithinLimit xs → IsBounded (length xs) (total xs)
total-within xs h = total_bounded xs (Each1-from_get_or IsWithinLimit xs (pos 0) (λ k inside. h k (pos 0) inside))

pub bounded_fits : (n : ℕ) (z : ℤ) → n ≤ 65536 → IsBounded n z → FitsSigned w64 z
bounded_fits n z few h = omega (arith, ints, h.at_least, h.at_most)

-- ---- lanes

-- the total of two vectors added lane by lane
total-added : (xs ys : List ℤ) → length xs ≡ length ys → total (zip2 (λ x y. x +ℤ y) xs ys) ≡ total xs +ℤ total ys
total-added [] [] long = omega (arith, ints)
total-added [] (y ∷ ys) long = absurd (omega (arith, long))
total-added (x ∷ xs) [] long = absurd (omega (arith, long))
total-added (x ∷ xs) (y ∷ ys) long = let rest = total-added xs ys (omega (arith, long)) in omega (arith, ints, rest)

bounded_more : (n : ℕ) (x y : ℤ) → IsBounded n x → IsWithinLimit y → IsBounded (suc n) (x +ℤ y)
bounded_more n x y h within = record { at_least = omega (arith, ints, h.at_least, within.at_least); at_most = omega (arith, ints, h.at_most, within.at_most) }

-- each sum of two vectors' lanes fits, if the lanes are bounded
pub lanes_fit : (n : ℕ) (xs ys : List ℤ) → suc n ≤ 65536 → Each1 (IsBounded n) xs → Each1 IsWithinLimit ys
    → Each2 (λ x y. (FitsSigned w64 x) × (FitsSigned w64 y) × (FitsSigned w64 (x +ℤ y))) xs ys
lanes_fit n [] ys few f g = tt
lanes_fit n (x ∷ xs) [] few f g = tt
lanes_fit n (x ∷ xs) (y ∷ ys) few f g = (
  (bounded_fits n x (omega (arith, few)) f.0, omega (arith, ints, g.0.at_least, g.0.at_most), bounded_fits (suc n) (x +ℤ y) few (bounded_more n x y f.0 g.0)),
  lanes_fit n xs ys few f.1 g.1,
)

added_bounded : (n : ℕ) (xs ys : List ℤ) → Each1 (IsBounded n) xs → Each1 IsWithinLimit ys → Each1 (IsBounded (suc n)) (zip2 (λ x y. x +ℤ y) xs ys)
added_bounded n [] ys f g = tt
added_bounded n (x ∷ xs) [] f g = tt
added_bounded n (x ∷ xs) (y ∷ ys) f g = (bounded_more n x y f.0 g.0, added_bounded n xs ys f.1 g.1)

-- if no lane overflows, addition is exact
pub added_exactly : (xs ys : List ℤ) → Each2 (λ x y. (FitsSigned w64 x) × (FitsSigned w64 y) × (FitsSigned w64 (x +ℤ y))) xs ys
    → zip2 (int_wrapping_add w64) xs ys ≡ zip2 (λ x y. x +ℤ y) xs ys
added_exactly [] ys fits = refl
added_exactly (x ∷ xs) [] fits = refl
added_exactly (x ∷ xs) (y ∷ ys) fits =
    ap₂ (λ z (zs : List ℤ). z ∷ zs) (wrapping_add_is w64 x y fits.0.0 fits.0.1 ∙ int_wrap_fits w64 (x +ℤ y) fits.0.2) (added_exactly xs ys fits.1)

-- the lanes' sums after n blocks: each is within n times the limit, and their total is that of the
-- blocks
pub record SumsAre (n : ℕ) (sums front : List ℤ) : Type 0 where
  pub lanes : length sums ≡ 8
  pub bounded : Each1 (IsBounded n) sums
  pub same : total sums ≡ total front

SumsAre_more : (n : ℕ) (sums front block : List ℤ) → length block ≡ 8 → Each1 IsWithinLimit block → SumsAre n sums front
    → SumsAre (suc n) (zip2 (λ x y. x +ℤ y) sums block) (front ++ block)
SumsAre_more n sums front block long within h =
    let level : length sums ≡ length block = h.lanes ∙ sym long in
    let added = total-added sums block level in
    let appended = total-append front block in
    record {
      lanes = length-zip2 (λ x y. x +ℤ y) sums block level ∙ h.lanes;
      bounded = added_bounded n sums block h.bounded within;
      same = omega (arith, ints, added, appended, h.same);
    }

fits_from_bounded : (n : ℕ) (xs : List ℤ) → n ≤ 65536 → Each1 (IsBounded n) xs → Each1 (FitsSigned w64) xs
fits_from_bounded n [] few h = tt
fits_from_bounded n (x ∷ xs) few h = (bounded_fits n x few h.0, fits_from_bounded n xs few h.1)

within_each : (xs : List ℤ) → All IsWithinLimit xs → Each1 IsWithinLimit xs
within_each xs within = Each1-from_get_or IsWithinLimit xs (pos 0) (λ k h. within k (pos 0) h)

-- the bound n for each of these lanes
bound_of : ℕ → List ℤ → ℕ
bound_of n [] = 0
bound_of n (x ∷ xs) = n + bound_of n xs

bound_small : (n : ℕ) (xs : List ℤ) → n ≤ 8192 → bound_of n xs ≤ length xs * 8192
unfolding bound_of
bound_small n [] few = omega arith
bound_small n (x ∷ xs) few = let rest = bound_small n xs few in omega (arith, rest, few)

sums_bounded : (n : ℕ) (xs : List ℤ) → Each1 (IsBounded n) xs → IsBounded (bound_of n xs) (total xs)
unfolding bound_of
sums_bounded n [] h = record { at_least = omega (arith, ints); at_most = omega (arith, ints) }
sums_bounded n (x ∷ xs) h =
    let rest = sums_bounded n xs h.1 in
    record { at_least = omega (arith, ints, h.0.at_least, rest.at_least); at_most = omega (arith, ints, h.0.at_most, rest.at_most) }

-- lanes that are read back from their bits are unchanged
read_back : (xs : List ℤ) → Each1 (FitsSigned w64) xs → map (to_z w64) (map (of_z w64) xs) ≡ xs
read_back [] fits = refl
read_back (x ∷ xs) fits = ap₂ (λ z (zs : List ℤ). z ∷ zs) (to_z-of_z w64 x fits.0) (read_back xs fits.1)

-- the sum of all lanes, from some bits on
reduced : (m : ℕ) (xs : List ℤ) → m < 2 ^ 64 → Each1 (FitsSigned w64) xs
    → to_z w64 (fold_l (λ a b. (a + b) % 2 ^ 64) m (map (of_z w64) xs)) ≡ int_wrap w64 (to_z w64 m +ℤ total xs)
reduced m [] small fits = sym (int_wrap_fits w64 (to_z w64 m) (sfits_to_z (record { fits = small }))) ∙ ap (int_wrap w64) (omega (arith, ints))
reduced m (x ∷ xs) small fits =
    reduced ((m + of_z w64 x) % 2 ^ 64) xs (mod_below (m + of_z w64 x) (2 ^ 64) (omega arith)) fits.1
    ∙ ap (λ z. int_wrap w64 (z +ℤ total xs)) (wrapping_add_onto w64 m x small fits.0)
    ∙ int_wrap-add_left w64 (to_z w64 m +ℤ x) (total xs) ∙ ap (int_wrap w64) (omega (arith, ints))

pub reduce_sum_is : (n : ℕ) (sums front : List ℤ) → n ≤ 8192 → SumsAre n sums front
    → to_z w64 (fold_l (λ a b. (a + b) % 2 ^ 64) 0 (map (of_z w64) sums)) ≡ total front
reduce_sum_is n sums front few h =
    let all = sums_bounded n sums h.bounded in
    reduced 0 sums (omega arith) (fits_from_bounded n sums (omega (arith, few)) h.bounded) ∙ ap (int_wrap w64) (omega (arith, ints))
    ∙ int_wrap_fits w64 (total sums)
    (bounded_fits (bound_of n sums) (total sums) (let small = bound_small n sums few in omega (arith, small, h.lanes)) all) ∙ h.same

-- the bits of these lanes
abbrev pub BitsAre : ℕ → List ℕ → List ℤ → Type 0
BitsAre n bits front = (sums : List ℤ) × (bits ≡ map (of_z w64) sums) × SumsAre n sums front

pub BitsAre_none : BitsAre 0 (replicate 8 0) []
BitsAre_none = (
  replicate 8 (pos 0),
  refl,
  record {
    lanes = refl;
    bounded = Each1-replicate (IsBounded 0) 8 (pos 0)
        (record { at_least = omega (arith, ints); at_most = omega (arith, ints) });
    same = refl;
  },
)

pub bits_fit : (n : ℕ) (bits : List ℕ) (front block : List ℤ) → suc n ≤ 65536 → All IsWithinLimit block → BitsAre n bits front
    → Each2 (λ x y. (FitsSigned w64 x) × (FitsSigned w64 y) × (FitsSigned w64 (x +ℤ y))) (map (to_z w64) bits) block
bits_fit n bits front block few within h =
    let read : map (to_z w64) bits ≡ h.0 = ap (map (to_z w64)) h.1 ∙ read_back h.0 (fits_from_bounded n h.0 (omega (arith, few)) h.2.bounded) in
    subst (λ xs. Each2 (λ x y. (FitsSigned w64 x) × (FitsSigned w64 y) × (FitsSigned w64 (x +ℤ y))) xs block) (sym read)
    (lanes_fit n h.0 block few h.2.bounded (within_each block within))

pub BitsAre_more : (n : ℕ) (bits : List ℕ) (front block result : List ℤ) → suc n ≤ 65536 → length block ≡ 8 → All IsWithinLimit block → BitsAre n bits front
    → result ≡ zip2 (λ x y. x +ℤ y) (map (to_z w64) bits) block → BitsAre (n + 1) (map (of_z w64) result) (front ++ block)
BitsAre_more n bits front block result few long within h is =
    let read : map (to_z w64) bits ≡ h.0 = ap (map (to_z w64)) h.1 ∙ read_back h.0 (fits_from_bounded n h.0 (omega (arith, few)) h.2.bounded) in
    let more : suc n ≡ n + 1 = omega arith in
    subst (λ m. BitsAre m (map (of_z w64) result) (front ++ block)) more (
      result,
      refl,
      subst (λ sums. SumsAre (suc n) sums (front ++ block)) (sym (is ∙ ap (λ xs. zip2 (λ x y. x +ℤ y) xs block) read))
          (SumsAre_more n h.0 front block long (within_each block within) h.2),
    )

-- ---- a column's front and the values after it, one by one

module _ (values : List ℤ) (few : length values ≤ 65536) (within : All IsWithinLimit values) where
  pub part_fits : (n : ℕ) → FitsSigned w64 (total (take n values))
  part_fits n = bounded_fits (length (take n values)) _ (omega (arith, length-take n values))
      (total-within (take n values) (All-take IsWithinLimit n values within))

  -- the whole blocks
  pub front_total : (blocks : List (List ℤ)) (sum : ℤ) → blocks ≡ first_chunks 8 (length values / 8) values → sum ≡ total (joined blocks)
      → sum ≡ total (take (length values / 8 * 8 + 0) values)
  front_total blocks sum are is =
      is ∙ ap (λ bs. total (joined bs)) are ∙ ap total (joined-first_chunks 8 (length values / 8) values) ∙ ap (λ n. total (take n values)) (omega arith)

-- one value of the rest
pub rest_total : (values rest : List ℤ) (n i : ℕ) → rest ≡ drop n values → i < length rest
    → total (take (n + i) values) +ℤ get_or rest i (pos 0) ≡ total (take (n + (i + 1)) values)
rest_total values rest n i is inside =
    let here : n + i < length values = omega (arith, ap length is, length-drop n values) in
    let value = ap (λ xs. get_or xs i (pos 0)) is ∙ get_or-drop n values i (pos 0) in
    ap (λ z. total (take (n + i) values) +ℤ z) value ∙ omega (arith, ints, total-append (take (n + i) values) (get_or values (n + i) (pos 0) ∷ []))
    ∙ ap total (sym (take_more values (n + i) (pos 0) here)) ∙ ap (λ m. total (take m values)) (omega arith)
