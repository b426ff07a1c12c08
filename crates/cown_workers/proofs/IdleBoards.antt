-- A board on which nothing is out, and nothing is ready, has nothing unfinished.
use Rattle.std.proofs.Common.{◌≡◌, ◌≢◌, inl, inr, ℕ, zero, suc, ◌<◌, ◌≤◌, true, false, ◌&&◌, Option, Some, None, List, length, refl, sym, ap, ◌∙◌, arith}
use Rattle.std.specs.Prelude.{slice_get}
use Rattle.std.proofs.lemmas.Bool.{cases_lt, and_left, and_from, true≢false}
use Rattle.std.proofs.lemmas.Option.{slice_get_past}
use Rattle.sb_calls.specs.Behaviour.{declared_cowns}
use Rattle.sb_calls.specs.declared.op.Op.{Op}
use Rattle.cown_board.proofs.PositionLaws.{none_below_at, none_below_from, none_from_places}
use Rattle.cown_board.specs.Board.{BoardOf, unfinished_of}
use Rattle.cown_board.specs.Positions.{none_below}
use Rattle.cown_board.specs.Readiness.{conflict_at, is_ready_at, is_clear_at, ready_positions}
use Rattle.cown_board.specs.State.{is_waiting, is_unfinished, state_is}
use Rattle.cown_board.specs.declared.state.State.{State}
use Rattle.cown_board.specs.declared.state.State.TheVariants.{Waiting, Out, Finished}
use Rattle.cown_workers.proofs.StateCounts.{count_none}
use Rattle.cown_workers.specs.Draining.{HasNoneOut, HasNoneReady}

-- a state that neither waits nor is out is finished
neither : (o : Option State) → (state_is is_waiting o ≡ true → ⊥) → o ≢ Some Out → state_is is_unfinished o ≡ false
neither None waits out = refl
neither (Some Waiting) waits out = absurd (waits refl)
neither (Some Out) waits out = absurd (out refl)
neither (Some (Finished reply)) waits out = refl

module _ {B : Type 0} (touches : B → List ℕ) (log : List B) (states : List State)
    (none_out : (k : ℕ) → slice_get states k ≢ Some Out) (none_ready : (k : ℕ) → k < length log → is_ready_at touches log states k ≡ false) where
  -- the first unfinished one would be ready
  finished_below : (m : ℕ) → m ≤ length log → (j : ℕ) → j < m → state_is is_unfinished (slice_get states j) ≡ false
  finished_below zero le j lt = absurd (omega (arith, lt))
  finished_below (suc m) le j lt =
      let before = finished_below m (omega (arith, le)) in
      elim (cases_lt j m) [
        | inl below ↦ before j below
        | inr past ↦
            let at : j ≡ m = omega (arith, lt, past) in
            let clear : is_clear_at touches log states m ≡ true =
            none_below_from (λ i. state_is is_unfinished (slice_get states i) && conflict_at touches log i m) m
            (λ i below. and_left (state_is is_unfinished (slice_get states i)) (conflict_at touches log i m) (before i below)) in
            ap (λ k. state_is is_unfinished (slice_get states k)) at
            ∙ neither (slice_get states m)
            (λ waits. true≢false (sym (and_from (state_is is_waiting (slice_get states m)) (is_clear_at touches log states m) waits clear)
            ∙ none_ready m (omega (arith, le))))
            (none_out m)
      ]

  all_finished : length log ≡ length states → (k : ℕ) → state_is is_unfinished (slice_get states k) ≡ false
  all_finished beside k = elim (cases_lt k (length log)) [
    | inl lt ↦ finished_below (length log) (omega arith) k lt
    | inr past ↦ ap (state_is is_unfinished) (slice_get_past states k (omega (arith, past, beside)))
  ]

pub nothing_left : (board : BoardOf Op) → length board.log ≡ length board.states → HasNoneOut board → HasNoneReady board → unfinished_of board ≡ 0
unfolding ready_positions
nothing_left board beside none_out none_ready =
    let none : none_below (is_ready_at declared_cowns board.log board.states) (length board.log) ≡ true =
    none_from_places (is_ready_at declared_cowns board.log board.states) (length board.log) none_ready in
    count_none is_unfinished board.states
    (all_finished declared_cowns board.log board.states none_out
    (λ k lt. none_below_at (is_ready_at declared_cowns board.log board.states) (length board.log) k none lt) beside)
