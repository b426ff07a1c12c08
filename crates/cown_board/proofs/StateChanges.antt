-- The states of a log's behaviours after one of them changed, or one more was added.
use Rattle.std.proofs.Common.{◌≡◌, ◌≢◌, ℕ, zero, suc, ◌<◌, ◌≤◌, Bool, true, false, Option, Some, None, List, [], ◌∷◌, ◌++◌, length, refl, sym, ap, ◌∙◌, inl, inr, arith}
use Rattle.std.specs.Prelude.{slice_get, slice_set}
use Rattle.std.proofs.lemmas.Bool.{cases_eq, cases_lt, true≢false}
use Rattle.std.proofs.lemmas.Option.{slice_get_past, slice_get_within}
use Rattle.sb_calls.specs.declared.reply.Reply.{Reply}
use Rattle.cown_board.proofs.PositionLaws.{slice_get-left, slice_get-right}
use Rattle.cown_board.specs.State.{is_waiting, is_unfinished, state_is, unfinished_at}
use Rattle.cown_board.specs.inner.StateTests.{waiting_at}
use Rattle.cown_board.specs.declared.state.State.{State}
use Rattle.cown_board.specs.declared.state.State.TheVariants.{Waiting, Out, Finished}

pub slice_get-set_same : {A : Type 0} (xs : List A) (k : ℕ) (x : A) → k < length xs → slice_get (slice_set xs k x) k ≡ Some x
slice_get-set_same [] k x lt = absurd (omega (arith, lt))
slice_get-set_same (y ∷ xs) zero x lt = refl
slice_get-set_same (y ∷ xs) (suc k) x lt = slice_get-set_same xs k x (omega (arith, lt))

pub slice_get-set_other : {A : Type 0} (xs : List A) (k j : ℕ) (x : A) → j ≢ k → slice_get (slice_set xs k x) j ≡ slice_get xs j
slice_get-set_other [] k j x differs = refl
slice_get-set_other (y ∷ xs) zero zero x differs = absurd (differs refl)
slice_get-set_other (y ∷ xs) zero (suc j) x differs = refl
slice_get-set_other (y ∷ xs) (suc k) zero x differs = refl
slice_get-set_other (y ∷ xs) (suc k) (suc j) x differs = slice_get-set_other xs k j x (λ same. differs (ap suc same))

-- a waiting state is unfinished
waits_open : (o : Option State) → state_is is_waiting o ≡ true → state_is is_unfinished o ≡ true
waits_open None h = h
waits_open (Some Waiting) h = refl
waits_open (Some Out) h = absurd (true≢false (sym h))
waits_open (Some (Finished reply)) h = absurd (true≢false (sym h))

pub waiting_is_open : (states : List State) (k : ℕ) → waiting_at states k ≡ true → unfinished_at states k ≡ true
waiting_is_open states k h = waits_open (slice_get states k) h

-- a state that waits is Waiting
is_that : (o : Option State) → state_is is_waiting o ≡ true → o ≡ Some Waiting
is_that None h = absurd (true≢false (sym h))
is_that (Some Waiting) h = refl
is_that (Some Out) h = absurd (true≢false (sym h))
is_that (Some (Finished reply)) h = absurd (true≢false (sym h))

pub state_waits : (states : List State) (k : ℕ) → waiting_at states k ≡ true → slice_get states k ≡ Some Waiting
state_waits states k waits = is_that (slice_get states k) waits

-- a test that fails on no state fails at positions past the end
pub state_past : (test : State → Bool) (states : List State) (k : ℕ) → length states ≤ k → state_is test (slice_get states k) ≡ false
state_past test states k past = ap (state_is test) (slice_get_past states k past)

-- only a behaviour of the log waits
pub waiting_within : (states : List State) (k : ℕ) → waiting_at states k ≡ true → k < length states
waiting_within states k waits = elim (cases_lt k (length states)) [
  | inl lt ↦ lt
  | inr past ↦ absurd (true≢false (sym waits ∙ state_past is_waiting states k past))
]

pub state_here : (test : State → Bool) (states : List State) (k : ℕ) (s : State) → slice_get states k ≡ Some s → state_is test (slice_get states k) ≡ test s
state_here test states k s h = ap (state_is test) h

pub state-set_same : (test : State → Bool) (states : List State) (k : ℕ) (s : State) → k < length states
    → state_is test (slice_get (slice_set states k s) k) ≡ test s
state-set_same test states k s lt = ap (state_is test) (slice_get-set_same states k s lt)

pub state-set_other : (test : State → Bool) (states : List State) (k j : ℕ) (s : State) → j ≢ k
    → state_is test (slice_get (slice_set states k s) j) ≡ state_is test (slice_get states j)
state-set_other test states k j s differs = ap (state_is test) (slice_get-set_other states k j s differs)

pub state-append : (test : State → Bool) (states : List State) (s : State) (j : ℕ) → j < length states
    → state_is test (slice_get (states ++ s ∷ []) j) ≡ state_is test (slice_get states j)
state-append test states s j lt = ap (state_is test) (slice_get-left states (s ∷ []) j lt)

pub state-last : (test : State → Bool) (states : List State) (s : State) (j : ℕ) → j ≡ length states → state_is test (slice_get (states ++ s ∷ []) j) ≡ test s
state-last test states s j e = ap (state_is test) (slice_get-right states (s ∷ []) j 0 (omega (arith, e)))

-- an out behaviour doesn't wait, and a finished one doesn't either
pub waiting-finished : (states : List State) (k j : ℕ) (reply : Reply) → slice_get states k ≡ Some Out
    → waiting_at (slice_set states k (Finished reply)) j ≡ waiting_at states j
waiting-finished states k j reply out = elim (cases_eq j k) [
  | inl same ↦
      ap (waiting_at (slice_set states k (Finished reply))) same ∙ state-set_same is_waiting states k (Finished reply) (slice_get_within states k Out out)
      ∙ sym (ap (waiting_at states) same ∙ state_here is_waiting states k Out out)
  | inr differs ↦ state-set_other is_waiting states k j (Finished reply) differs
]
