-- How many of a list of states pass a test, after one of them changed.
use Rattle.std.proofs.Common.{◌≡◌, ℕ, zero, suc, ◌+◌, Bool, false, cond, Some, List, [], ◌∷◌, refl, ap, arith}
use Rattle.std.specs.Prelude.{slice_get, slice_set, count_by}
use Rattle.std.proofs.lemmas.List.Sums.{sum_by-cons}
use Rattle.cown_board.specs.State.{state_is}
use Rattle.cown_board.specs.declared.state.State.{State}
use Rattle.cown_board.proofs.LogLaws.{injective}
use Rattle.cown_board.proofs.LogLaws.{no_some}

abbrev pub one_if : (State → Bool) → State → ℕ
one_if test s = cond (test s) 1 0

count_cons : (test : State → Bool) (s : State) (states : List State) → count_by test (s ∷ states) ≡ one_if test s + count_by test states
count_cons test s states = sum_by-cons (one_if test) s states

-- a changed state counts in place of the old one
pub count-set : (test : State → Bool) (states : List State) (k : ℕ) (old new : State) → slice_get states k ≡ Some old
    → count_by test (slice_set states k new) + one_if test old ≡ count_by test states + one_if test new
count-set test [] k old new h = absurd (no_some h)
count-set test (t ∷ states) zero old new h =
    let same : one_if test t ≡ one_if test old = ap (one_if test) (injective h) in
    let a = count_cons test new states in
    let b = count_cons test t states in
    omega (arith, same, a, b)
count-set test (t ∷ states) (suc k) old new h =
    let a = count_cons test t (slice_set states k new) in
    let b = count_cons test t states in
    let rest = count-set test states k old new h in
    omega (arith, a, b, rest)

-- if the test holds at no position, none counts
pub count_none : (test : State → Bool) (states : List State) → ((k : ℕ) → state_is test (slice_get states k) ≡ false) → count_by test states ≡ 0
count_none test [] none = refl
count_none test (s ∷ states) none =
    let here : one_if test s ≡ 0 = ap (λ b. cond b 1 0) (none 0) in
    let a = count_cons test s states in
    let rest = count_none test states (λ k. none (suc k)) in
    omega (arith, here, a, rest)
