-- A list with its places.
use Rattle.std.proofs.Common.{◌≡◌, ℕ, suc, ◌+◌, ◌<◌, ◌≤◌, cond, eqb, ltb, List, [], ◌∷◌, ◌++◌, length, refl, sym, ap, ◌∙◌, ⊎_elim, arith}
use Rattle.std.specs.Prelude.{◌==◌, nat_lt, if◌then◌else◌, sum_by, count_by}
use Rattle.std.specs.List.{enumerate_from}
use Rattle.std.proofs.lemmas.Bool.{cases_eq, cases_lt, eq-eqb, ne_eqb, cond-true, cond-false, lt-ltb, le-ltb}
use Rattle.std.proofs.lemmas.List.Sums.{sum_by-cons}

module _ {A : Type 0} where
  push_from : (n : ℕ) (xs : List A) (y : A) → enumerate_from n (xs ++ y ∷ []) ≡ enumerate_from n xs ++ (n + length xs, y) ∷ []
  push_from n [] y = let same : n ≡ n + 0 = omega arith in ap (λ (k : ℕ). (k, y) ∷ []) same
  push_from n (x ∷ xs) y =
      let same : n + 1 + length xs ≡ n + suc (length xs) = omega arith in
      ap (λ l. (n, x) ∷ l) (push_from (n + 1) xs y ∙ ap (λ (k : ℕ). enumerate_from (n + 1) xs ++ (k, y) ∷ []) same)

  -- one more comes at the position that is the length
  pub enumerate_from-push : (xs : List A) (y : A) → enumerate_from 0 (xs ++ y ∷ []) ≡ enumerate_from 0 xs ++ (length xs, y) ∷ []
  enumerate_from-push xs y =
      let same : 0 + length xs ≡ length xs = omega arith in
      push_from 0 xs y ∙ ap (λ (k : ℕ). enumerate_from 0 xs ++ (k, y) ∷ []) same

  -- if places weigh nothing, it weighs as much as the list
  pub sum_by-enumerate_from : (h : A → ℕ) (n : ℕ) (xs : List A) → sum_by (λ (pick : ℕ × A). h pick.1) (enumerate_from n xs) ≡ sum_by h xs
  sum_by-enumerate_from h n [] = refl
  sum_by-enumerate_from h n (x ∷ xs) =
      let rest = sum_by-enumerate_from h (n + 1) xs in
      let left = sum_by-cons (λ (pick : ℕ × A). h pick.1) (n, x) (enumerate_from (n + 1) xs) in
      omega (arith, left, sum_by-cons h x xs, rest)

  module _ (position : ℕ) where
    abbrev count : ℕ → List A → ℕ
    count n xs = count_by (λ (pick : ℕ × A). pick.0 == position) (enumerate_from n xs)

    count-cons : (n : ℕ) (x : A) (xs : List A) → count n (x ∷ xs) ≡ cond {A = ℕ} (eqb n position) 1 0 + count (n + 1) xs
    count-cons n x xs = sum_by-cons (λ (pick : ℕ × A). cond (pick.0 == position) 1 0) (n, x) (enumerate_from (n + 1) xs)

    outside : (n : ℕ) (xs : List A) → (n ≤ position → n + length xs ≤ position) → count n xs ≡ 0
    outside n [] out = refl
    outside n (x ∷ xs) out =
        let first : cond {A = ℕ} (eqb n position) 1 0 ≡ 0 = cond-false (eqb n position) 1 0 (ne_eqb n position (λ same. omega (arith, out))) in
        let rest : count (n + 1) xs ≡ 0 = outside (n + 1) xs (λ le. omega (arith, out, le)) in
        let parts : count n (x ∷ xs) ≡ cond {A = ℕ} (eqb n position) 1 0 + count (n + 1) xs = count-cons n x xs in
        omega (arith, parts, first, rest)

    within : (n : ℕ) (xs : List A) → n ≤ position → position < n + length xs → count n xs ≡ 1
    within n [] le lt = absurd (omega arith)
    within n (x ∷ xs) le lt =
        let parts : count n (x ∷ xs) ≡ cond {A = ℕ} (eqb n position) 1 0 + count (n + 1) xs = count-cons n x xs in
        ⊎_elim
        (λ (same : n ≡ position).
        let first : cond {A = ℕ} (eqb n position) 1 0 ≡ 1 = cond-true (eqb n position) 1 0 (eq-eqb n position same) in
        let rest : count (n + 1) xs ≡ 0 = outside (n + 1) xs (λ later. absurd (omega (arith, later, same))) in
        let all : count n (x ∷ xs) ≡ 1 = omega (arith, parts, first, rest) in all)
        (λ (apart : n ≡ position → ⊥).
        let first : cond {A = ℕ} (eqb n position) 1 0 ≡ 0 = cond-false (eqb n position) 1 0 (ne_eqb n position apart) in
        let later : n + 1 ≤ position = omega (arith, apart) in
        let rest : count (n + 1) xs ≡ 1 = within (n + 1) xs later (omega arith) in
        let all : count n (x ∷ xs) ≡ 1 = omega (arith, parts, first, rest) in all)
        (cases_eq n position)

    -- each position below the length occurs once, and no other
    pub count_by-enumerate_from : (xs : List A)
        → count_by (λ (pick : ℕ × A). pick.0 == position) (enumerate_from 0 xs) ≡ (if nat_lt position (length xs) then 1 else 0)
    count_by-enumerate_from xs =
        ⊎_elim
        (λ (lt : position < length xs). within 0 xs (omega arith) (omega arith)
        ∙ sym (cond-true (ltb position (length xs)) 1 0 (lt-ltb position (length xs) lt)))
        (λ (le : length xs ≤ position). outside 0 xs (λ _. omega arith) ∙ sym (cond-false (ltb position (length xs)) 1 0 (le-ltb position (length xs) le)))
        (cases_lt position (length xs))
