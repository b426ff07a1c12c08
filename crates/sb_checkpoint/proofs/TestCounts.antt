-- Whether an element of a list passes a test, by a first place and by a count.
use Rattle.std.proofs.Common.{◌≡◌, ℕ, ◌+◌, Bool, true, false, cond, ltb, ◌||◌, Some, None, List, [], ◌∷◌, length, get_or, refl, sym, ap, ◌∙◌, zero-add, arith, inl, inr}
use Rattle.std.specs.Option.{is_some}
use Rattle.std.specs.List.{All, count_by, list_any, position, position_or_len}
use Rattle.std.proofs.lemmas.Bool.{cases_lt, lt-ltb, le-ltb}
use Rattle.std.proofs.lemmas.List.Folds.{list_any_at, list_any_none}
use Rattle.std.proofs.lemmas.List.Sums.{fails_before_first, passes_at_first, sum_by-cons}

-- one that passes has a first place
pub position_any : {A : Type 0} (p : A → Bool) (xs : List A) (d : A) → is_some (position p xs) ≡ list_any p xs
position_any p xs d =
    let first = position_or_len p xs in
    let found : Bool → Bool = λ within. is_some (cond within (Some first) None) in
    elim (cases_lt first (length xs)) [
      | inl within ↦
          ap found (lt-ltb first (length xs) within) ∙ sym (list_any_at p xs first d within (passes_at_first p xs d within))
      | inr past ↦
          ap found (le-ltb first (length xs) past)
          ∙ sym (list_any_none p xs (λ k e inside. fails_before_first p xs k e (omega arith)))
    ]

counted : (test any : Bool) (count : ℕ) → ltb 0 count ≡ any → ltb 0 (cond test 1 0 + count) ≡ (test || any)
counted true any count same = lt-ltb 0 (1 + count) (omega arith)
counted false any count same = ap (ltb 0) (zero-add count) ∙ same

-- and is counted
pub count_any : {A : Type 0} (p : A → Bool) (xs : List A) → ltb 0 (count_by p xs) ≡ list_any p xs
count_any p [] = refl
count_any p (x ∷ xs) = ap (ltb 0) (sum_by-cons (λ x. cond (p x) 1 0) x xs) ∙ counted (p x) (list_any p xs) (count_by p xs) (count_any p xs)

-- if none passes, each fails
pub each_fails : {A : Type 0} (p : A → Bool) (xs : List A) → list_any p xs ≡ false → All (λ x. p x ≡ false) xs
each_fails p xs none k d inside =
    let test = p (get_or xs k d) in
    by_test test refl
  where
    by_test : (b : Bool) → p (get_or xs k d) ≡ b → p (get_or xs k d) ≡ false
    by_test true is = let passes = list_any_at p xs k d inside is in absurd cc
    by_test false is = is
