-- Texts with a point: the parts before and after it, and the number of points.
use Rattle.std.proofs.Common.{◌≡◌, ◌⊎◌, inl, inr, ℕ, suc, ◌+◌, ◌<◌, Bool, true, false, cond, List, [], ◌∷◌, ◌++◌, length, get_or, take, drop, refl, sym, ap, ◌∙◌, arith}
use Rattle.std.proofs.lemmas.List.Sums.{sum_by-cons, sum_by-append, sum_by-take-drop, sum_by-drop_more}
use Rattle.std.proofs.lemmas.List.{drop_more, take-append-drop}
use Rattle.std.proofs.lemmas.Bool.{false_from_ne_true}
use Rattle.std.proofs.lemmas.Grind.{common_steps}
use Rattle.std.specs.List.{count_by, before_first, after_first, position_or_len}

-- no element of the list passes the test
abbrev pub NonePasses : {X : Type 0} → (X → Bool) → List X → Type 0
NonePasses p [] = Unit {0}
NonePasses p (x ∷ xs) = (p x ≡ false) × NonePasses p xs

-- if none passes, the count is 0
pub count_by-none : {X : Type 0} (p : X → Bool) (xs : List X) → NonePasses p xs → count_by p xs ≡ 0
count_by-none p [] h = refl
count_by-none p (x ∷ xs) h = sum_by-cons (λ x. cond (p x) 1 0) x xs ∙ rw (h.0, count_by-none p xs h.1)

-- if the count is 0, none passes
pub NonePasses-from_count : {X : Type 0} (p : X → Bool) (xs : List X) → count_by p xs ≡ 0 → NonePasses p xs
NonePasses-from_count p [] h = tt
NonePasses-from_count p (x ∷ xs) h =
    let apart = sum_by-cons (λ x. cond (p x) 1 0) x xs in
    let fails : p x ≡ false = false_from_ne_true (p x) (λ yes. omega (arith, apart, h, ap {B = ℕ} (λ b. cond b 1 0) yes)) in
    (fails, NonePasses-from_count p xs (omega (arith, apart, h)))

-- the first that passes comes after those that don't
pub position_or_len-at : {X : Type 0} (p : X → Bool) (xs : List X) (y : X) (ys : List X) → NonePasses p xs → p y ≡ true
    → position_or_len p (xs ++ y ∷ ys) ≡ length xs
position_or_len-at p [] y ys h e = rw e
position_or_len-at p (x ∷ xs) y ys h e = rw (h.0, position_or_len-at p xs y ys h.1 e) (omega arith)

-- what comes before it
pub before_first-at : {X : Type 0} (p : X → Bool) (xs : List X) (y : X) (ys : List X) → NonePasses p xs → p y ≡ true → before_first p (xs ++ y ∷ ys) ≡ xs
before_first-at p xs y ys h e = let place = position_or_len-at p xs y ys h e in rw place (grind (arith, common_steps))

-- what comes after it
past : {X : Type 0} (xs : List X) (y : X) (ys : List X) → drop (length xs + 1) (xs ++ y ∷ ys) ≡ ys
past [] y ys = refl
past (x ∷ xs) y ys = let more : length (x ∷ xs) + 1 ≡ suc (length xs + 1) = grind (arith, common_steps) in rw more (past xs y ys)

pub after_first-at : {X : Type 0} (p : X → Bool) (xs : List X) (y : X) (ys : List X) → NonePasses p xs → p y ≡ true → after_first p (xs ++ y ∷ ys) ≡ ys
after_first-at p xs y ys h e = let place = position_or_len-at p xs y ys h e in rw place (past xs y ys)

-- how many pass: that one, and those after it
pub count_by-at : {X : Type 0} (p : X → Bool) (xs : List X) (y : X) (ys : List X) → NonePasses p xs → p y ≡ true → count_by p (xs ++ y ∷ ys) ≡ 1 + count_by p ys
count_by-at p xs y ys h e =
    let apart = sum_by-append (λ x. cond (p x) 1 0) xs (y ∷ ys) in
    let first = sum_by-cons (λ x. cond (p x) 1 0) y ys in
    let none = count_by-none p xs h in
    omega (arith, apart, first, none, ap {B = ℕ} (λ b. cond b 1 0) e)

-- a list is one that no element passes, or it is cut at the first that does
pub cut_at_first : {X : Type 0} (p : X → Bool) (xs : List X)
    → NonePasses p xs ⊎ ((ws : List X) × (y : X) × (ys : List X) × (xs ≡ ws ++ y ∷ ys) × NonePasses p ws × (p y ≡ true))
cut_at_first p [] = inl tt
cut_at_first {X} p (x ∷ xs) =
    let Cut : List X → Type 0 = λ zs. NonePasses p zs ⊎ ((ws : List X) × (y : X) × (ys : List X) × (zs ≡ ws ++ y ∷ ys) × NonePasses p ws × (p y ≡ true)) in
    let rest : Cut xs = cut_at_first p xs in
    elim (p x) as (λ b. p x ≡ b → Cut (x ∷ xs)) [
      | true ↦ λ yes. inr ([], x, xs, refl, tt, yes)
      | false ↦ λ no. elim rest [
        | inl none ↦ inl (no, none)
        | inr cut ↦ inr (x ∷ cut.0, cut.1, cut.2, ap (λ zs. x ∷ zs) cut.3, (no, cut.4), cut.5)
      ]
    ] refl

-- ---- the same, from the place of the only one

-- the list is cut at i
pub record IsCutAt {X : Type 0} (p : X → Bool) (xs : List X) (i : ℕ) : Type 0 where
  pub before : take i xs ≡ before_first p xs
  pub after : drop (i + 1) xs ≡ after_first p xs

pub IsCutAt-only : {X : Type 0} (p : X → Bool) (xs : List X) (i : ℕ) (d : X) → i < length xs → p (get_or xs i d) ≡ true → count_by p xs ≡ 1 → IsCutAt p xs i
IsCutAt-only p xs i d within passes one =
    let y = get_or xs i d in
    let ys = drop (i + 1) xs in
    let apart = sum_by-take-drop (λ x. cond (p x) 1 0) xs i in
    let next = sum_by-drop_more (λ x. cond (p x) 1 0) xs i d within in
    let none : NonePasses p (take i xs) = NonePasses-from_count p (take i xs) (omega (arith, apart, next, one, ap {B = ℕ} (λ b. cond b 1 0) passes)) in
    let split : take i xs ++ y ∷ ys ≡ xs = ap (λ zs. take i xs ++ zs) (sym (drop_more xs i d within)) ∙ take-append-drop i xs in
    record {
      before = sym (before_first-at p (take i xs) y ys none passes) ∙ ap (before_first p) split;
      after = sym (after_first-at p (take i xs) y ys none passes) ∙ ap (after_first p) split;
    }
