-- The least place at which two columns differ, in terms of their values.
use Rattle.std.proofs.Common.{◌≡◌, ◌≢◌, ℕ, zero, suc, ◌<◌, ℤ, pos, false, not, Some, None, List, [], ◌∷◌, length, get_or, take, refl, sym, ap, ap₂, ◌∙◌, arith, inl, inr}
use Rattle.std.proofs.lemmas.Bool.{both_ways, cases_lt, cond-true, lt-ltb, not-false, not_from_true}
use Rattle.std.proofs.lemmas.Bool.Decides.{Decides-int_eq}
use Rattle.std.proofs.lemmas.List.{take_all}
use Rattle.std.proofs.lemmas.List.Quantifiers.{position-Some}
use Rattle.std.proofs.lemmas.List.Sums.{fails_before_first}
use Rattle.std.proofs.lemmas.Option.{slice_get-get_or}
use Rattle.std.proofs.lemmas.Slice.Zip.{get_or-zip, length-zip}
use Rattle.std.specs.List.{position_or_len, slice_get, zip}
use Rattle.std.specs.Ordering.{int_eq}
use Rattle.lane_audit.specs.Columns.{first_difference}
use Rattle.lane_audit.specs.LeastPlaces.{EqualWithoutDifference, LeastDifference}
use Rattle.lane_audit.proofs.Positions.{SameBelow}

-- columns that are the same place by place
take_same : (n : ℕ) (xs ys : List ℤ) → length xs ≡ length ys → SameBelow xs ys n → take n xs ≡ take n ys
take_same zero xs ys long same = refl
take_same (suc n) [] [] long same = refl
take_same (suc n) [] (y ∷ ys) long same = absurd (omega (arith, long))
take_same (suc n) (x ∷ xs) [] long same = absurd (omega (arith, long))
take_same (suc n) (x ∷ xs) (y ∷ ys) long same =
    ap₂ (λ z (zs : List ℤ). z ∷ zs) (same 0 (omega arith)) (take_same n xs ys (omega (arith, long)) (λ k h. same (suc k) (omega arith)))

module _ (left right : List ℤ) (long : length left ≡ length right) where
  length-pairs : length (zip left right) ≡ length left
  length-pairs = omega (arith, length-zip left right)

  at_pair : (k : ℕ) → k < length left → get_or (zip left right) k (pos 0, pos 0) ≡ (get_or left k (pos 0), get_or right k (pos 0))
  at_pair k inside = get_or-zip left right k (pos 0, pos 0) inside (omega arith)

  -- a pair that does not differ
  same_at : (k : ℕ) → k < length left → not (int_eq (get_or (zip left right) k (pos 0, pos 0)).0 (get_or (zip left right) k (pos 0, pos 0)).1) ≡ false
      → get_or left k (pos 0) ≡ get_or right k (pos 0)
  same_at k inside none =
      (Decides-int_eq _ _).0 (not-false _ (sym (ap (λ (p : ℤ × ℤ). not (int_eq p.0 p.1)) (at_pair k inside)) ∙ none))

  found : (place : ℕ) → first_difference left right ≡ Some place → (take place left ≡ take place right) × (slice_get left place ≢ slice_get right place)
  found place is =
      let facts = position-Some (λ (p : ℤ × ℤ). not (int_eq p.0 p.1)) (zip left right) place (pos 0, pos 0) is in
      let inside : place < length left = omega (arith, facts.0, length-pairs) in (
        take_same place left right long (λ k h. same_at k (omega arith) (facts.2 k h)),
        λ same.
            let values : Some (get_or left place (pos 0)) ≡ Some (get_or right place (pos 0)) =
            sym (slice_get-get_or left place (pos 0) inside) ∙ same ∙ slice_get-get_or right place (pos 0) (omega arith) in
            let equal : get_or left place (pos 0) ≡ get_or right place (pos 0) = cc in
            both_ways _ (ap (λ (p : ℤ × ℤ). not (int_eq p.0 p.1)) (at_pair place inside) ∙ not_from_true _ ((Decides-int_eq _ _).1 equal)) facts.1,
      )

  equal : first_difference left right ≡ None → left ≡ right
  equal none =
      let p = λ (e : ℤ × ℤ). not (int_eq e.0 e.1) in
      elim (cases_lt (position_or_len p (zip left right)) (length (zip left right))) [
        | inl before ↦
            let some : Some (position_or_len p (zip left right)) ≡ None =
            sym (cond-true _ _ _ (lt-ltb (position_or_len p (zip left right)) (length (zip left right)) before)) ∙ none in
            absurd (cc)
        | inr behind ↦
            let whole = take_same (length left) left right long
            (λ k h. same_at k h (fails_before_first p (zip left right) k (pos 0, pos 0) (omega (arith, behind, length-pairs)))) in
            sym (take_all (length left) left (omega arith)) ∙ whole ∙ take_all (length left) right (omega arith)
      ]

pub LeastDifference-holds : LeastDifference
LeastDifference-holds left right place long is = found left right long place is

pub EqualWithoutDifference-holds : EqualWithoutDifference
EqualWithoutDifference-holds left right long none = equal left right long none
