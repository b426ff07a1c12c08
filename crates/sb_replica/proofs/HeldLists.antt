-- What is held after a log of some length, as the log grows and as an op is held.
use Rattle.std.proofs.Common.{◌≡◌, ℕ, suc, ◌+◌, ◌-◌, ◌%◌, ◌<◌, ◌≤◌, Option, None, List, [], ◌∷◌, ◌++◌, length, drop, sym, subst, arith}
use Rattle.std.specs.Prelude.{replicate, slice_get, slice_set}
use Rattle.sb_calls.specs.declared.op.Op.{Op}
use Rattle.sb_replica.proofs.Rotations.{round-replicate, round-set, round-first, round-next, ComesRound, comes_round}
use Rattle.sb_replica.specs.Log.{none_held}
use Rattle.sb_replica.specs.inner.Rotation.{in_order_after}

pub held-none : (size : ℕ) → in_order_after {A = Option Op} size (replicate 64 None) ≡ none_held
unfolding none_held
held-none size = round-replicate (suc size % 64) 64 None (omega arith)

module _ {A : Type 0} (items : List A) (size : ℕ) (many : length items ≡ 64) where
  pub held-first : slice_get (in_order_after size items) 0 ≡ slice_get items (suc size % 64)
  held-first = round-first items (suc size % 64) (omega (arith, many))

  turn : (more : ℕ) → more < 64 → ComesRound (length items) (suc size % 64) more ((suc size + more) % 64)
  turn more lt = subst (λ (n : ℕ). ComesRound n (suc size % 64) more ((suc size + more) % 64)) (sym many) (comes_round (suc size) more lt)

  -- the log is longer by one, and the place of its last number is overwritten
  pub held-next : (item : A) → in_order_after (suc size) (slice_set items (suc size % 64) item) ≡ drop 1 (in_order_after size items) ++ item ∷ []
  held-next item =
      let next : suc size + 1 ≡ suc (suc size) = omega arith in
      round-next items (suc size % 64) (suc (suc size) % 64) item
      (subst (λ (n : ℕ). ComesRound (length items) (suc size % 64) 1 (n % 64)) next (turn 1 (omega arith)))

  -- something is held for a number
  pub held-write : (number : ℕ) (item : A) → suc size ≤ number → number ≤ size + 64
      → in_order_after size (slice_set items (number % 64) item) ≡ slice_set (in_order_after size items) (number - size - 1) item
  held-write number item after within =
      let more = number - size - 1 in
      let is : suc size + more ≡ number = omega (arith, after) in
      round-set items (suc size % 64) more (number % 64)
      (subst (λ (n : ℕ). ComesRound (length items) (suc size % 64) more (n % 64)) is (turn more (omega (arith, within)))) item
