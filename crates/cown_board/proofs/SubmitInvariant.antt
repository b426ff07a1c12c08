-- One more behaviour is submitted: the invariant stays.
use Rattle.std.proofs.Common.{◌≡◌, inl, inr, ℕ, ◌+◌, ◌<◌, ◌≤◌, ℤ, pos, true, Some, List, [], ◌∷◌, ◌++◌, length, length-append, get_or, sym, ap, ◌∙◌, arith}
use Rattle.std.specs.Prelude.{slice_get, option_map}
use Rattle.std.proofs.lemmas.Bool.{cases_lt, true≢false, false_from_ne_true}
use Rattle.std.proofs.lemmas.Option.{slice_get_within}
use Rattle.sb_calls.specs.SerialRun.{is_among, share_cown, contents_after_first, reply_of}
use Rattle.sb_calls.specs.declared.reply.Reply.{Reply}
use Rattle.cown_board.proofs.ReadyInputs.{touched_within}
use Rattle.cown_board.proofs.LogLaws.{injective, after-append, after_untouched}
use Rattle.cown_board.proofs.PositionLaws.{slice_get-left, slice_get-right}
use Rattle.cown_board.proofs.StateChanges.{state-append, state-last}
use Rattle.cown_board.specs.inner.BoardInvariant.{AgreesWithLog, IsFinishedUpTo, touches_at}
use Rattle.cown_board.specs.Readiness.{touched_by, conflict_at}
use Rattle.cown_board.specs.State.{is_waiting, is_unfinished}
use Rattle.cown_board.specs.declared.state.State.{State}
use Rattle.cown_board.specs.declared.state.State.TheVariants.{Waiting, Finished}

-- a waiting state isn't a finished one
pub not_waiting : {reply : Reply} → ◌≡◌ {A = State} Waiting (Finished reply) → ⊥
not_waiting {reply = reply} h = true≢false (ap is_unfinished h)

module _ {B : Type 0} (touches : B → List ℕ) (effect : B → List ℤ → Reply × List ℤ) where
  -- those before it declare the same cowns
  touches-append : (log : List B) (b : B) (cown k : ℕ) → k < length log
      → touches_at touches effect (log ++ b ∷ []) cown k ≡ touches_at touches effect log cown k
  touches-append log b cown k lt = ap (λ o. is_among cown (touched_by touches o)) (slice_get-left log (b ∷ []) k lt)

  conflict-append : (log : List B) (b : B) (j k : ℕ) → j < length log → k < length log → conflict_at touches (log ++ b ∷ []) j k ≡ conflict_at touches log j k
  conflict-append log b j k lt_j lt_k =
      ap (λ o. share_cown (touched_by touches o) (touched_by touches (slice_get (log ++ b ∷ []) k))) (slice_get-left log (b ∷ []) j lt_j)
      ∙ ap (λ o. share_cown (touched_by touches (slice_get log j)) (touched_by touches o)) (slice_get-left log (b ∷ []) k lt_k)

  -- a cown that is finished with one more behaviour was finished before it
  settled_old : {opening : List ℤ} {log : List B} {states : List State} {held : List ℤ} → AgreesWithLog touches effect opening log states held
      → (b : B) (cown i : ℕ) → IsFinishedUpTo touches effect (log ++ b ∷ []) (states ++ Waiting ∷ []) cown i → IsFinishedUpTo touches effect log states cown i
  settled_old {log = log} {states = states} kept b cown i finished_up_to = record {
    before = λ j lt among.
        let within = touched_within touches effect log cown j among in
        sym (state-append is_unfinished states Waiting j (omega (arith, within, kept.same_length)))
        ∙ finished_up_to.before j lt (touches-append log b cown j within ∙ among);
    after = λ j ge among.
        let within = touched_within touches effect log cown j among in
        sym (state-append is_unfinished states Waiting j (omega (arith, within, kept.same_length)))
        ∙ finished_up_to.after j ge (touches-append log b cown j within ∙ among);
  }

  settled_submitted : {opening : List ℤ} {log : List B} {states : List State} {held : List ℤ} → AgreesWithLog touches effect opening log states held
      → (b : B) (cown i : ℕ) → i ≤ length (log ++ b ∷ []) → IsFinishedUpTo touches effect (log ++ b ∷ []) (states ++ Waiting ∷ []) cown i
      → get_or held cown (pos 0) ≡ get_or (contents_after_first touches effect opening (log ++ b ∷ []) i) cown (pos 0)
  settled_submitted {opening = opening} {log = log} {states = states} {held = held} kept b cown i le finished_up_to =
      let longer : length (log ++ b ∷ []) ≡ length log + 1 = length-append log (b ∷ []) in
      elim (cases_lt (length log) i) [
        | inl new ↦
            let all : i ≡ length log + 1 = omega (arith, new, le, longer) in
            let before : IsFinishedUpTo touches effect log states cown (length log) = record {
              before = λ j lt among. (settled_old kept b cown i finished_up_to).before j (omega (arith, lt, new)) among;
              after = λ j ge among. absurd (let within = touched_within touches effect log cown j among in omega (arith, within, ge));
            } in
            kept.finished_up_to cown (length log) (omega arith) before
            ∙ ap (λ h. get_or h cown (pos 0)) (sym (after-append touches effect opening log (b ∷ []) (length log) (omega arith)))
            ∙ sym (after_untouched touches effect opening (log ++ b ∷ []) cown (length log) 1 i all
            (λ j ge lt. false_from_ne_true (touches_at touches effect (log ++ b ∷ []) cown j) (λ among.
            let here : j ≡ length states = omega (arith, ge, lt, all, kept.same_length) in
            true≢false (sym (state-last is_unfinished states Waiting j here) ∙ finished_up_to.before j lt among))))
        | inr old ↦
            kept.finished_up_to cown i old (settled_old kept b cown i finished_up_to)
            ∙ ap (λ h. get_or h cown (pos 0)) (sym (after-append touches effect opening log (b ∷ []) i old))
      ]

  pub keeps_submitted : {opening : List ℤ} {log : List B} {states : List State} {held : List ℤ} → AgreesWithLog touches effect opening log states held
      → (b : B) → ((cown : ℕ) → is_among cown (touches b) ≡ true → cown < length opening)
      → AgreesWithLog touches effect opening (log ++ b ∷ []) (states ++ Waiting ∷ []) held
  keeps_submitted {opening = opening} {log = log} {states = states} {held = held} kept b fits =
      let longer : length (log ++ b ∷ []) ≡ length log + 1 = length-append log (b ∷ []) in
      let more : length (states ++ Waiting ∷ []) ≡ length states + 1 = length-append states (Waiting ∷ []) in
      let last : slice_get (log ++ b ∷ []) (length log) ≡ Some b = slice_get-right log (b ∷ []) (length log) 0 (omega arith) in
      record {
        same_length = omega (arith, longer, more, kept.same_length);
        cown_count = kept.cown_count;
        opened = kept.opened;
        in_range = λ k cown among. elim (cases_lt k (length log)) [
          | inl within ↦ kept.in_range k cown (sym (touches-append log b cown k within) ∙ among)
          | inr past ↦
              let here : k ≡ length log = (let lt = touched_within touches effect (log ++ b ∷ []) cown k among in omega (arith, lt, past, longer)) in
              fits cown (sym (ap (λ o. is_among cown (touched_by touches o)) (ap (slice_get (log ++ b ∷ [])) here ∙ last)) ∙ among)
        ];
        ordered = λ j i before within unfinished conflict. elim (cases_lt i (length log)) [
          | inl old ↦
              state-append is_waiting states Waiting i (omega (arith, old, kept.same_length))
              ∙ kept.ordered j i before old
              (sym (state-append is_unfinished states Waiting j (omega (arith, old, before, kept.same_length))) ∙ unfinished)
              (sym (conflict-append log b j i (omega (arith, old, before)) old) ∙ conflict)
          | inr new ↦ state-last is_waiting states Waiting i (omega (arith, new, within, longer, kept.same_length))
        ];
        finished_up_to = settled_submitted kept b;
        replies = λ i reply finished.
            let lt : i < length states + 1 = (let w = slice_get_within (states ++ Waiting ∷ []) i (Finished reply) finished in omega (arith, w, more)) in
            elim (cases_lt i (length states)) [
              | inl old ↦
                  ap (λ h. option_map (reply_of touches effect h) (slice_get (log ++ b ∷ []) i))
                  (after-append touches effect opening log (b ∷ []) i (omega (arith, old, kept.same_length)))
                  ∙ ap (option_map (reply_of touches effect (contents_after_first touches effect opening log i)))
                  (slice_get-left log (b ∷ []) i (omega (arith, old, kept.same_length)))
                  ∙ kept.replies i reply (sym (slice_get-left states (Waiting ∷ []) i old) ∙ finished)
              | inr new ↦ absurd (not_waiting (injective (sym (slice_get-right states (Waiting ∷ []) i 0 (omega (arith, lt, new))) ∙ finished)))
            ];
      }
