-- The first place that passes a test, and what a block adds to a front.
use Rattle.std.proofs.Common.{◌≡◌, ℕ, ◌+◌, ◌-◌, ◌<◌, ◌≤◌, ℤ, pos, Bool, true, false, not, Some, None, List, length, get_or, take, drop, sym, ap, ◌∙◌, arith, inl, inr}
use Rattle.std.proofs.lemmas.Bool.{both_ways, cases_lt, cond-true, cond-false, false_from_ne_true, lt-ltb, le-ltb, not_from_false, not_from_true}
use Rattle.std.proofs.lemmas.Bool.Decides.{Decides-int_eq}
use Rattle.std.proofs.lemmas.List.Folds.{list_any_at}
use Rattle.std.proofs.lemmas.List.Sums.{position_or_len_is}
use Rattle.std.proofs.lemmas.Simd.{length-chunk, get_or-chunk}
use Rattle.std.proofs.lemmas.Slice.Zip.{get_or-zip, length-zip}
use Rattle.std.specs.List.{list_any, position, position_or_len, zip}
use Rattle.std.specs.Ordering.{int_eq}
use Rattle.lane_audit.specs.Columns.{first_difference}

module _ {A : Type 0} (p : A → Bool) (xs : List A) (d : A) where
  -- the first element that passes, and the case that none does
  pub position_at : (i : ℕ) → i < length xs → ((k : ℕ) → k < i → p (get_or xs k d) ≡ false) → p (get_or xs i d) ≡ true → Some i ≡ position p xs
  position_at i inside below here =
      let is = position_or_len_is p xs i d (omega arith) below (λ _. here) in
      sym (cond-true _ _ _ (lt-ltb (position_or_len p xs) (length xs) (omega (arith, is))) ∙ ap (λ n. Some n) is)

  pub position_none : ((k : ℕ) → k < length xs → p (get_or xs k d) ≡ false) → None ≡ position p xs
  position_none all =
      let is = position_or_len_is p xs (length xs) d (omega arith) all (λ h. absurd (omega (arith, h))) in
      sym (cond-false _ _ _ (le-ltb (position_or_len p xs) (length xs) (omega (arith, is))))

-- ---- two columns

abbrev pub SameBelow : List ℤ → List ℤ → ℕ → Type 0
SameBelow xs ys n = (k : ℕ) → k < n → get_or xs k (pos 0) ≡ get_or ys k (pos 0)

module _ (xs ys : List ℤ) (same_length : length xs ≡ length ys) where
  at_pair : (k : ℕ) → k < length xs → get_or (zip xs ys) k (pos 0, pos 0) ≡ (get_or xs k (pos 0), get_or ys k (pos 0))
  at_pair k inside = get_or-zip xs ys k (pos 0, pos 0) inside (omega arith)

  length-pairs : length (zip xs ys) ≡ length xs
  length-pairs = omega (arith, length-zip xs ys)

  same_pair : (n : ℕ) → n ≤ length xs → SameBelow xs ys n → (k : ℕ) → k < n
      → not (int_eq (get_or (zip xs ys) k (pos 0, pos 0)).0 (get_or (zip xs ys) k (pos 0, pos 0)).1) ≡ false
  same_pair n within same k below =
      ap (λ (p : ℤ × ℤ). not (int_eq p.0 p.1)) (at_pair k (omega arith)) ∙ not_from_true _ ((Decides-int_eq _ _).1 (same k below))

  pub first_difference_at : (i : ℕ) → i < length xs → SameBelow xs ys i → (get_or xs i (pos 0) ≡ get_or ys i (pos 0) → ⊥) → Some i ≡ first_difference xs ys
  first_difference_at i inside same unequal =
      position_at (λ p. not (int_eq p.0 p.1)) (zip xs ys) (pos 0, pos 0) i (omega (arith, length-pairs)) (same_pair i (omega arith) same)
      (ap (λ (p : ℤ × ℤ). not (int_eq p.0 p.1)) (at_pair i inside) ∙ not_from_false _ (false_from_ne_true _ (λ h. unequal ((Decides-int_eq _ _).0 h))))

  pub first_difference_none : SameBelow xs ys (length xs) → None ≡ first_difference xs ys
  first_difference_none same =
      position_none (λ p. not (int_eq p.0 p.1)) (zip xs ys) (pos 0, pos 0) (λ k h. same_pair (length xs) (omega arith) same k (omega (arith, length-pairs)))

-- ---- one more block

-- a place in a block is a place after the front
in_block : (xs : List ℤ) (at k : ℕ) → at ≤ k → k < at + 8 → get_or (take 8 (drop at xs)) (k - at) (pos 0) ≡ get_or xs k (pos 0)
in_block xs at k from to =
    let back : at + (k - at) ≡ k = omega arith in
    get_or-chunk at 8 xs (k - at) (pos 0) (omega arith) ∙ ap (λ n. get_or xs n (pos 0)) back

pub same_block_more : (xs ys : List ℤ) (at : ℕ) → SameBelow xs ys at → take 8 (drop at xs) ≡ take 8 (drop at ys) → SameBelow xs ys (at + 8)
same_block_more xs ys at below same k h =
    elim (cases_lt k at) [
      | inl before ↦ below k before
      | inr behind ↦ sym (in_block xs at k behind h) ∙ ap (λ zs. get_or zs (k - at) (pos 0)) same ∙ in_block ys at k behind h
    ]

pub failing_block_more : (p : ℤ → Bool) (xs : List ℤ) (at : ℕ) → at + 8 ≤ length xs → ((k : ℕ) → k < at → p (get_or xs k (pos 0)) ≡ false)
    → list_any p (take 8 (drop at xs)) ≡ false
    → (k : ℕ) → k < at + 8 → p (get_or xs k (pos 0)) ≡ false
failing_block_more p xs at room below none k h =
    elim (cases_lt k at) [
      | inl before ↦ below k before
      | inr behind ↦
          false_from_ne_true _
          (λ passes. both_ways _ none (list_any_at p (take 8 (drop at xs)) (k - at) (pos 0) (omega (arith, length-chunk at 8 xs room))
          (ap p (in_block xs at k behind h) ∙ passes)))
    ]
