-- Being in front of queues, as a fact and as a count.
use Rattle.std.proofs.Common.{◌≡◌, ◌≢◌, ℕ, ◌+◌, Bool, true, false, cond, not, Some, List, [], ◌∷◌, ◌++◌, refl, sym, ap, inl, inr, arith}
use Rattle.std.specs.Prelude.{◌==◌, if◌then◌else◌, slice_get, is_some, count_by}
use Rattle.std.proofs.lemmas.Bool.{cases_Bool, eqb-true, eq-eqb, ne_eqb, not_from_false, not_from_true, or_left, or_right, true≢false}
use Rattle.std.proofs.lemmas.List.Sums.{sum_by-cons}
use Rattle.sb_calls.proofs.CownContents.{eqb-refl}
use Rattle.sb_calls.specs.SerialRun.{is_among}
use Rattle.cown_queue.specs.Queues.{IsInFront, list_of}
use Rattle.cown_board.proofs.LogLaws.{injective, no_some}
use Rattle.cown_board.proofs.PositionLaws.{one}
use Rattle.cown_board.specs.inner.Fronts.{behind_at, is_first}

pub first_from : (xs : List ℕ) (n : ℕ) → slice_get xs 0 ≡ Some n → is_first n xs ≡ true
first_from [] n h = absurd (no_some h)
first_from (x ∷ xs) n h = eq-eqb x n (injective h)

pub first_to : (xs : List ℕ) (n : ℕ) → is_first n xs ≡ true → slice_get xs 0 ≡ Some n
first_to [] n h = absurd (true≢false (sym h))
first_to (x ∷ xs) n h = ap (λ y. Some y) (eqb-true x n h)

-- another number appended is the first only of a list that was empty
pub first-append : (j n : ℕ) (xs : List ℕ) → j ≢ n → is_first j (xs ++ n ∷ []) ≡ is_first j xs
first-append j n [] differs = ne_eqb n j (λ same. differs (sym same))
first-append j n (x ∷ xs) differs = refl

pub first_chosen : (b : Bool) (j n : ℕ) (xs : List ℕ) → j ≢ n → is_first j (if b then xs ++ n ∷ [] else xs) ≡ is_first j xs
first_chosen true j n xs differs = first-append j n xs differs
first_chosen false j n xs differs = refl

-- it is in front exactly if the list was empty
pub first-last : (n : ℕ) (xs : List ℕ) → ((x : ℕ) → slice_get xs 0 ≡ Some x → x ≢ n) → not (is_first n (xs ++ n ∷ [])) ≡ is_some (slice_get xs 0)
first-last n [] other = not_from_true (n == n) (eqb-refl n)
first-last n (x ∷ xs) other = not_from_false (x == n) (ne_eqb x n (other x refl))

pub count-cons : (p : ℕ → Bool) (x : ℕ) (xs : List ℕ) → count_by p (x ∷ xs) ≡ one (p x) + count_by p xs
count-cons p x xs = sum_by-cons (λ y. cond (p y) 1 0) x xs

-- if two tests agree on all of a list, their counts are equal
pub count_by-agree : (p q : ℕ → Bool) (xs : List ℕ) → ((x : ℕ) → is_among x xs ≡ true → p x ≡ q x) → count_by p xs ≡ count_by q xs
count_by-agree p q [] same = refl
count_by-agree p q (x ∷ xs) same =
    let here : one (p x) ≡ one (q x) = ap one (same x (or_left (x == x) (is_among x xs) (eqb-refl x))) in
    let rest = count_by-agree p q xs (λ y among. same y (or_right (y == x) (is_among y xs) among)) in
    let a = count-cons p x xs in
    let b = count-cons q x xs in
    omega (arith, here, rest, a, b)

-- a number is behind at none of these cowns exactly if it is in front at all
pub none_behind : (n : ℕ) (lists : List (List ℕ)) (cowns : List ℕ) → IsInFront n cowns lists → behind_at n lists cowns ≡ 0
none_behind n lists [] fronts = refl
none_behind n lists (c ∷ cowns) fronts =
    let here : one (not (is_first n (list_of lists c))) ≡ 0 = ap (λ b. one (not b)) (first_from (list_of lists c) n fronts.0) in
    let rest = none_behind n lists cowns fronts.1 in
    let all = count-cons (λ cown. not (is_first n (list_of lists cown))) c cowns in
    omega (arith, here, rest, all)

pub fronts_from_none : (n : ℕ) (lists : List (List ℕ)) (cowns : List ℕ) → behind_at n lists cowns ≡ 0 → IsInFront n cowns lists
fronts_from_none n lists [] none = tt
fronts_from_none n lists (c ∷ cowns) none =
    let all = count-cons (λ cown. not (is_first n (list_of lists cown))) c cowns in
    elim (cases_Bool (is_first n (list_of lists c))) [
      | inl first ↦ (first_to (list_of lists c) n first, fronts_from_none n lists cowns (omega (arith, none, all)))
      | inr behind ↦
          let here : one (not (is_first n (list_of lists c))) ≡ 1 = ap (λ b. one (not b)) behind in
          absurd (omega (arith, none, all, here))
    ]

-- two tests that imply each other are equal
pub same_tests : (a b : Bool) → (a ≡ true → b ≡ true) → (b ≡ true → a ≡ true) → a ≡ b
same_tests true b to from = sym (to refl)
same_tests false true to from = from refl
same_tests false false to from = refl
