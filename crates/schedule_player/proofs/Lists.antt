-- Items of lists, by place.
use Rattle.std.proofs.Common.{◌≡◌, ◌⊎◌, inl, inr, false, get_or, ℕ, zero, suc, ◌+◌, ◌<◌, ◌≤◌, Option, Some, None, List, [], ◌∷◌, ◌++◌, length, drop, replicate, refl, sym, ap, subst, ◌∙◌, arith}
use Rattle.std.specs.List.{slice_get, slice_set, slice_index_or}
use Rattle.std.specs.Option.{is_some}
use Rattle.std.proofs.lemmas.Bool.{true≢false}
use Rattle.std.proofs.lemmas.Option.{slice_get_cases}
use Rattle.schedule_player.specs.OneBased.{nth_item, Every}
use Rattle.cown_board.proofs.LogLaws.{injective as some_is}
use Rattle.cown_board.proofs.LogLaws.{no_some as none_some}

pub every_nil : {A : Type 0} (P : A → Type 0) → Every P []
every_nil P k item here = absurd (none_some here)

pub every_cons : {A : Type 0} (P : A → Type 0) (x : A) (xs : List A) → P x → Every P xs → Every P (x ∷ xs)
every_cons P x xs first more zero item here = subst P (some_is here) first
every_cons P x xs first more (suc k) item here = more k item here

pub every_append : {A : Type 0} (P : A → Type 0) (xs ys : List A) → Every P xs → Every P ys → Every P (xs ++ ys)
every_append P [] ys here there = there
every_append P (x ∷ xs) ys here there =
    every_cons P x (xs ++ ys) (here 0 x refl) (every_append P xs ys (λ k item at. here (suc k) item at) there)

pub every_push : {A : Type 0} (P : A → Type 0) (xs : List A) (x : A) → Every P xs → P x → Every P (xs ++ x ∷ [])
every_push P xs x here last = every_append P xs (x ∷ []) here (every_cons P x [] last (every_nil P))

pub every_set : {A : Type 0} (P : A → Type 0) (xs : List A) (k : ℕ) (x : A) → Every P xs → P x → Every P (slice_set xs k x)
every_set P [] k x here new = here
every_set P (y ∷ xs) zero x here new = every_cons P x xs new (λ k item at. here (suc k) item at)
every_set P (y ∷ xs) (suc k) x here new =
    every_cons P y (slice_set xs k x) (here 0 y refl) (every_set P xs k x (λ j item at. here (suc j) item at) new)

same_default : {A : Type 0} (xs : List A) (k : ℕ) (x y : A) → k < length xs → slice_index_or xs k x ≡ get_or xs k y
same_default [] k x y lt = absurd (omega (arith, lt))
same_default (z ∷ xs) zero x y lt = refl
same_default (z ∷ xs) (suc k) x y lt = same_default xs k x y (omega (arith, lt))

pub get_here : {A : Type 0} (xs : List A) (k : ℕ) (x : A) → k < length xs → x ≡ slice_index_or xs k x → slice_get xs k ≡ Some x
get_here {A = A} xs k x lt is = by (slice_get_cases xs k).1
  where
    by : (((y : A) × (k < length xs) × (slice_get xs k ≡ Some y) × (get_or xs k y ≡ y)) ⊎ ((length xs ≤ k) × (slice_get xs k ≡ None)))
        → slice_get xs k ≡ Some x
    by (inl found) = found.2 ∙ ap (λ y. Some y) (sym (is ∙ same_default xs k x found.0 lt ∙ found.3))
    by (inr past) = absurd (omega (arith, lt, past.0))

-- an empty list
pub none_here : {A : Type 0} (xs : List (Option A)) (k : ℕ) (x : Option A) → k < length xs → x ≡ slice_index_or xs k x
    → false ≡ is_some x → slice_get xs k ≡ Some None
none_here xs k None lt is empty = get_here xs k None lt is
none_here xs k (Some x) lt is empty = absurd (true≢false (sym empty))

-- the item at a place, put there again
pub set_here : {A : Type 0} (xs : List A) (k : ℕ) (x : A) → slice_get xs k ≡ Some x → slice_set xs k x ≡ xs
set_here [] k x here = refl
set_here (y ∷ xs) zero x here = ap (λ z. z ∷ xs) (sym (some_is here))
set_here (y ∷ xs) (suc k) x here = ap (λ zs. y ∷ zs) (set_here xs k x here)

-- the rest of a list from an item on begins with it
pub drop_one : {A : Type 0} (xs : List A) (k : ℕ) (x : A) → slice_get xs k ≡ Some x → drop k xs ≡ x ∷ drop (k + 1) xs
drop_one {A = A} xs k x here = let e : k + 1 ≡ suc k = omega arith in by xs k here ∙ ap (λ n. x ∷ drop n xs) (sym e)
  where
    by : (ys : List A) (n : ℕ) → slice_get ys n ≡ Some x → drop n ys ≡ x ∷ drop (suc n) ys
    by [] n none = absurd (none_some none)
    by (y ∷ ys) zero first = ap (λ z. z ∷ ys) (some_is first)
    by (y ∷ ys) (suc n) later = by ys n later

pub every_replicate : {A : Type 0} (P : A → Type 0) (n : ℕ) (x : A) → P x → Every P (replicate n x)
every_replicate P zero x is = every_nil P
every_replicate P (suc n) x is = every_cons P x (replicate n x) is (every_replicate P n x is)

pub every_numbered : {A : Type 0} (P : A → Type 0) (xs : List A) (n : ℕ) (x : A) → Every P xs → nth_item xs n ≡ Some x → P x
every_numbered P xs zero x all here = absurd (none_some here)
every_numbered P xs (suc k) x all here = all k x here

-- an item of a list with one more is of the list, or is that one
pub pushed_cases : {A : Type 0} (xs : List A) (x : A) (k : ℕ) (item : A) → slice_get (xs ++ x ∷ []) k ≡ Some item
    → (slice_get xs k ≡ Some item) ⊎ ((k ≡ length xs) × (x ≡ item))
pushed_cases [] x zero item here = inr (refl, some_is here)
pushed_cases [] x (suc k) item here = absurd (none_some here)
pushed_cases (y ∷ xs) x zero item here = inl here
pushed_cases (y ∷ xs) x (suc k) item here = elim (pushed_cases xs x k item here) [
  | inl there ↦ inl there
  | inr last ↦ let e = last.0 in inr (omega (arith, e), last.1)
]
