-- The number of unfinished behaviours.
use Rattle.std.proofs.Common.{◌≡◌, inl, inr, ℕ, zero, suc, ◌+◌, ◌≤◌, Bool, true, false, cond, Option, Some, None, List, [], ◌∷◌, ◌++◌, length, refl, ap, ◌∙◌, arith}
use Rattle.std.specs.Prelude.{slice_get, slice_set, count_by}
use Rattle.std.proofs.lemmas.Bool.{cases_Bool, false_from_ne_true}
use Rattle.std.proofs.lemmas.List.Sums.{sum_by-cons}
use Rattle.cown_board.proofs.LogLaws.{injective, no_some}
use Rattle.cown_board.proofs.PositionLaws.{one, length-places_first}
use Rattle.cown_board.specs.Positions.{positions}
use Rattle.cown_board.specs.State.{is_unfinished, state_is}
use Rattle.cown_board.specs.declared.state.State.{State}

-- 1 if the state is unfinished, else 0
abbrev pub one_if_open : State → ℕ
one_if_open s = cond (is_unfinished s) 1 0

count_cons : (s : State) (states : List State) → count_by is_unfinished (s ∷ states) ≡ one_if_open s + count_by is_unfinished states
count_cons s states = sum_by-cons one_if_open s states

pub count-append : (states : List State) (s : State) → count_by is_unfinished (states ++ s ∷ []) ≡ count_by is_unfinished states + one_if_open s
count-append [] s = count_cons s [] ∙ omega arith
count-append (t ∷ states) s =
    count_cons t (states ++ s ∷ []) ∙ ap (λ n. one_if_open t + n) (count-append states s)
    ∙ (let e = count_cons t states in omega (arith, e))

-- a changed state counts instead of the old one
pub count-set : (states : List State) (k : ℕ) (old new : State) → slice_get states k ≡ Some old
    → count_by is_unfinished (slice_set states k new) + one_if_open old ≡ count_by is_unfinished states + one_if_open new
count-set [] k old new h = absurd (no_some h)
count-set (t ∷ states) zero old new h =
    let same : one_if_open t ≡ one_if_open old = ap one_if_open (injective h) in
    let a = count_cons new states in
    let b = count_cons t states in
    omega (arith, same, a, b)
count-set (t ∷ states) (suc k) old new h =
    let a = count_cons t (slice_set states k new) in
    let b = count_cons t states in
    let rest = count-set states k old new h in
    omega (arith, a, b, rest)

-- an unfinished one counts
pub count_some : (states : List State) (k : ℕ) (s : State) → slice_get states k ≡ Some s → is_unfinished s ≡ true → 1 ≤ count_by is_unfinished states
count_some [] k s h unfinished = absurd (no_some h)
count_some (t ∷ states) zero s h unfinished =
    let one : one_if_open t ≡ 1 = ap (λ x. one_if_open x) (injective h) ∙ ap (λ b. cond b 1 0) unfinished in
    let a = count_cons t states in
    omega (arith, one, a)
count_some (t ∷ states) (suc k) s h unfinished =
    let a = count_cons t states in
    let rest = count_some states k s h unfinished in
    omega (arith, a, rest)

counts_none : (states : List State) (k : ℕ) (o : Option State) → count_by is_unfinished states ≡ 0 → slice_get states k ≡ o → state_is is_unfinished o ≡ false
counts_none states k None none here = refl
counts_none states k (Some s) none here = false_from_ne_true (is_unfinished s) (λ unfinished. omega (arith, none, count_some states k s here unfinished))

-- if none counts, all are finished
pub all_finished : (states : List State) (k : ℕ) → count_by is_unfinished states ≡ 0 → state_is is_unfinished (slice_get states k) ≡ false
all_finished states k none = counts_none states k (slice_get states k) none refl

-- if a test holds only for unfinished ones, it holds for at most that many
pub few_places : (states : List State) (f : ℕ → Bool) (m : ℕ) → m ≤ length states
    → ((j : ℕ) → f j ≡ true → state_is is_unfinished (slice_get states j) ≡ true) → length (positions f m) ≤ count_by is_unfinished states
few_places states f zero le each = omega arith
few_places [] f (suc m) le each = absurd (omega (arith, le))
few_places (t ∷ states) f (suc m) le each =
    let all = length-places_first f m in
    let rest = few_places states (λ j. f (suc j)) m (omega (arith, le)) (λ j so. each (suc j) so) in
    let count = count_cons t states in
    let here : one (f 0) ≤ one_if_open t = elim (cases_Bool (f 0)) [
      | inl so ↦ (let a : one (f 0) ≡ 1 = ap one so in let b : one_if_open t ≡ 1 = ap (λ b. cond b 1 0) (each 0 so) in omega (arith, a, b))
      | inr not_so ↦ (let a : one (f 0) ≡ 0 = ap one not_so in omega (arith, a))
    ] in
    omega (arith, all, rest, count, here)
