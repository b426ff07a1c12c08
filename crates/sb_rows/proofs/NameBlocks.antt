-- A block of a text in lanes, and whether each lane passes a test.
use Rattle.std.proofs.Common.{◌≡◌, ℕ, suc, ◌+◌, ◌*◌, ◌-◌, ◌^◌, ◌%◌, ◌≤◌, eqb, Bool, true, false, ◌&&◌, List, [], ◌∷◌, map, length, take, drop, Fits, w8, refl, sym, ap, ap₂, ◌∙◌, arith, inl, inr, pow-suc, take-append-drop, length-drop}
use Rattle.std.proofs.lemmas.Bool.{agree_below, agree_below_at, and_left, and_right, and_parts, cases_eq, eq-eqb, ne_eqb}
use Rattle.std.proofs.Math.Seq.{take-add}
use Rattle.std.proofs.lemmas.List.{length-map, take_all}
use Rattle.std.proofs.lemmas.List.Folds.{list_all-append, list_all-map}
use Rattle.std.proofs.lemmas.Simd.{map-map, mask_l-lt, mask_l-mod}
use Rattle.std.specs.List.{list_all}
use lib.Lanes.{Each1, mask_l, top}

doubled : (n : ℕ) → 2 ^ suc n ≡ 2 * 2 ^ n
doubled n = omega (arith, pow-suc 2 n)

-- a mask has all bits set exactly if each lane is set
all_set : (bs : List Bool) → eqb (mask_l bs) (2 ^ length bs - 1) ≡ list_all (λ b. b) bs
all_set [] = refl
all_set (true ∷ bs) =
    let next = doubled (length bs) in
    elim (cases_eq (mask_l bs) (2 ^ length bs - 1)) [
      | inl all ↦ eq-eqb _ _ (omega (arith, next, all, mask_l-lt bs)) ∙ sym (eq-eqb _ _ all) ∙ all_set bs
      | inr some ↦ ne_eqb _ _ (λ h. some (omega (arith, next, h, mask_l-lt bs))) ∙ sym (ne_eqb _ _ some) ∙ all_set bs
    ]
all_set (false ∷ bs) =
    let next = doubled (length bs) in
    ne_eqb _ _ (λ h. absurd (omega (arith, next, h, mask_l-lt bs)))

-- two tests that agree on each byte agree on a text
agree_on : (p q : ℕ → Bool) → agree_below p q 256 ≡ true → (xs : List ℕ) → Each1 (Fits w8) xs → list_all p xs ≡ list_all q xs
agree_on p q same [] fits = refl
agree_on p q same (x ∷ xs) fits = ap₂ (λ a b. a && b) (agree_below_at p q 256 x same fits.0.fits) (agree_on p q same xs fits.1)

-- eight lanes computed from a block, each set exactly if its byte passes the test
pub all_lanes : (q : ℕ → Bool) (v : List ℕ) → length v ≡ 8 → Each1 (Fits w8) v → (f : ℕ → ℕ) {z : List ℕ} → z ≡ map f v
    → agree_below (λ x. top 7 (f x)) q 256 ≡ true → eqb (mask_l (map (top 7) z) % 2 ^ 64) 255 ≡ list_all q v
all_lanes q v long fits f lanes same =
    let stops : ℕ → Bool = λ x. top 7 (f x) in
    let sizes : length (map stops v) ≡ 8 = length-map v stops ∙ long in
    ap (λ l. eqb (mask_l l % 2 ^ 64) 255) (ap (map (top 7)) lanes ∙ map-map (top 7) f v)
    ∙ ap₂ eqb (mask_l-mod (map stops v) 64 (omega (arith, sizes))) (sym (ap (λ n. 2 ^ n - 1) sizes))
    ∙ all_set (map stops v) ∙ list_all-map (λ b. b) stops v ∙ agree_on stops q same v fits

module _ (q : ℕ → Bool) (xs : List ℕ) where
  -- a text passes exactly if its parts do
  parts : (n : ℕ) → list_all q xs ≡ (list_all q (take n xs) && list_all q (drop n xs))
  parts n = sym (ap (list_all q) (take-append-drop n xs)) ∙ list_all-append q (take n xs) (drop n xs)

  front : (n m : ℕ) → list_all q (take (n + m) xs) ≡ (list_all q (take n xs) && list_all q (take m (drop n xs)))
  front n m = ap (list_all q) (take-add n m xs) ∙ list_all-append q (take n xs) (take m (drop n xs))

  -- if a block fails, its text fails
  pub block_fails : (at : ℕ) → list_all q (take 8 (drop at xs)) ≡ false → list_all q xs ≡ false
  block_fails at fails = parts (at + 8) ∙ and_left _ _ (front at 8 ∙ and_right _ _ fails)

  -- one more block that passes
  pub block_passes : (at : ℕ) → list_all q (take at xs) ≡ true → list_all q (take 8 (drop at xs)) ≡ true → list_all q (take (at + 8) xs) ≡ true
  block_passes at before block = front at 8 ∙ ap₂ (λ a b. a && b) before block

  -- the last block decides if everything before it passes
  pub last_block : (at : ℕ) → 8 ≤ length xs → length xs ≤ at + 8 → list_all q (take at xs) ≡ true
      → list_all q (take 8 (drop (length xs - 8) xs)) ≡ list_all q xs
  last_block at long seen passes =
      let n = length xs - 8 in
      let more : n + (at - n) ≡ at = omega (arith, seen) in
      let whole = take_all 8 (drop n xs) (omega (arith, length-drop n xs)) in
      let before = (and_parts _ _ (sym (front n (at - n)) ∙ ap (λ m. list_all q (take m xs)) more ∙ passes)).0 in
      ap (list_all q) whole ∙ sym (parts n ∙ ap (λ b. b && list_all q (drop n xs)) before)
