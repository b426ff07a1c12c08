-- A ready behaviour is handed out: the invariant stays.
use Rattle.std.proofs.Common.{◌≡◌, inl, inr, ℕ, ◌<◌, ℤ, true, false, Some, List, sym, ap, ◌∙◌, arith}
use Rattle.std.specs.Prelude.{slice_get, slice_set}
use Rattle.std.proofs.lemmas.Bool.{cases_eq, true≢false}
use Rattle.std.proofs.lemmas.List.{length-set}
use Rattle.std.proofs.lemmas.Option.{slice_get_within}
use Rattle.sb_calls.specs.declared.reply.Reply.{Reply}
use Rattle.cown_board.proofs.LogLaws.{injective}
use Rattle.cown_board.proofs.StateChanges.{state-set_same, state-set_other, state_here, slice_get-set_same, slice_get-set_other}
use Rattle.cown_board.specs.inner.BoardInvariant.{AgreesWithLog}
use Rattle.cown_board.specs.Readiness.{conflict_at}
use Rattle.cown_board.specs.State.{is_waiting, is_unfinished, unfinished_at}
use Rattle.cown_board.specs.declared.state.State.{State}
use Rattle.cown_board.specs.declared.state.State.TheVariants.{Waiting, Out, Finished}

-- it is unfinished before and after, like all others
pub open-taken : (states : List State) (k j : ℕ) → slice_get states k ≡ Some Waiting → unfinished_at (slice_set states k Out) j ≡ unfinished_at states j
open-taken states k j here = elim (cases_eq j k) [
  | inl same ↦
      ap (unfinished_at (slice_set states k Out)) same ∙ state-set_same is_unfinished states k Out (slice_get_within states k Waiting here)
      ∙ sym (ap (unfinished_at states) same ∙ state_here is_unfinished states k Waiting here)
  | inr differs ↦ state-set_other is_unfinished states k j Out differs
]

-- an out state isn't a finished one
pub not_out : {reply : Reply} → ◌≡◌ {A = State} Out (Finished reply) → ⊥
not_out {reply = reply} h = true≢false (ap is_unfinished h)

module _ {B : Type 0} (touches : B → List ℕ) (effect : B → List ℤ → Reply × List ℤ) where
  pub keeps_taken : {opening : List ℤ} {log : List B} {states : List State} {held : List ℤ} → AgreesWithLog touches effect opening log states held
      → (k : ℕ) → slice_get states k ≡ Some Waiting → ((j : ℕ) → j < k → conflict_at touches log j k ≡ true → unfinished_at states j ≡ false)
      → AgreesWithLog touches effect opening log (slice_set states k Out) held
  keeps_taken {opening = opening} {log = log} {states = states} {held = held} kept k here clear = record {
    same_length = kept.same_length ∙ sym (length-set states k Out);
    cown_count = kept.cown_count;
    opened = kept.opened;
    in_range = kept.in_range;
    ordered = λ j i before within unfinished conflict.
        let was : unfinished_at states j ≡ true = sym (open-taken states k j here) ∙ unfinished in
        elim (cases_eq i k) [
          | inl same ↦ absurd (true≢false (sym was ∙ clear j (omega (arith, same, before)) (ap (conflict_at touches log j) (sym same) ∙ conflict)))
          | inr differs ↦ state-set_other is_waiting states k i Out differs ∙ kept.ordered j i before within was conflict
        ];
    finished_up_to = λ cown i le finished_up_to. kept.finished_up_to cown i le (record {
      before = λ j lt among. sym (open-taken states k j here) ∙ finished_up_to.before j lt among;
      after = λ j ge among. sym (open-taken states k j here) ∙ finished_up_to.after j ge among;
    });
    replies = λ i reply finished. elim (cases_eq i k) [
      | inl same ↦ absurd (not_out (injective (sym (slice_get-set_same states k Out (slice_get_within states k Waiting here))
          ∙ ap (slice_get (slice_set states k Out)) (sym same) ∙ finished)))
      | inr differs ↦ kept.replies i reply (sym (slice_get-set_other states k i Out differs) ∙ finished)
    ];
  }
