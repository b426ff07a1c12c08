-- A behaviour that is out is finished: the invariant stays.
use Rattle.std.proofs.Common.{◌≡◌, ◌≢◌, inl, inr, ℕ, suc, ◌-◌, ◌<◌, ◌≤◌, ℤ, pos, true, false, Option, Some, List, length, get_or, take, sym, ap, ◌∙◌, arith}
use Rattle.std.specs.Prelude.{slice_get, slice_set, option_map, option_and_then}
use Rattle.std.proofs.lemmas.Bool.{cases_Bool, cases_eq, cases_lt, true≢false, false_from_ne_true}
use Rattle.std.proofs.lemmas.List.{length-set}
use Rattle.std.proofs.lemmas.Option.{slice_get_within}
use Rattle.sb_calls.specs.Cowns.{write_cowns}
use Rattle.sb_calls.specs.SerialRun.{is_among, inputs_of, contents_after_first, reply_of}
use Rattle.sb_calls.specs.declared.reply.Reply.{Reply}
use Rattle.sb_calls.proofs.CownContents.{length-write, get-write_other, get-write_same}
use Rattle.cown_board.proofs.ReadyInputs.{touched_within, conflict_from}
use Rattle.cown_board.proofs.LogLaws.{injective, after_one_more, after_untouched, length-after}
use Rattle.cown_board.proofs.StateChanges.{state-set_same, state-set_other, state_here, slice_get-set_same, slice_get-set_other, waiting_is_open}
use Rattle.cown_board.specs.inner.BoardInvariant.{AgreesWithLog, IsFinishedUpTo, touches_at}
use Rattle.cown_board.specs.Readiness.{touched_by, conflict_at}
use Rattle.cown_board.specs.State.{is_waiting, is_unfinished, finished_reply, unfinished_at}
use Rattle.cown_board.specs.inner.StateTests.{waiting_at}
use Rattle.cown_board.specs.declared.state.State.{State}
use Rattle.cown_board.specs.declared.state.State.TheVariants.{Out, Finished}

pub same_reply : {a b : Reply} → ◌≡◌ {A = Option State} (Some (Finished a)) (Some (Finished b)) → a ≡ b
same_reply h = injective (ap (λ o. option_and_then finished_reply o) h)

module _ {B : Type 0} (touches : B → List ℕ) (effect : B → List ℤ → Reply × List ℤ)
    {opening : List ℤ} {log : List B} {states : List State} {held : List ℤ} (kept : AgreesWithLog touches effect opening log states held)
    (k : ℕ) (b : B) (here : slice_get log k ≡ Some b) (out : slice_get states k ≡ Some Out) where
  lt_log : k < length log
  lt_log = slice_get_within log k b here

  lt_states : k < length states
  lt_states = slice_get_within states k Out out

  out_unfinished : unfinished_at states k ≡ true
  out_unfinished = state_here is_unfinished states k Out out

  isnt_waiting : waiting_at states k ≡ false
  isnt_waiting = state_here is_waiting states k Out out

  -- those before it that share a cown with it are finished
  pub clear_of_out : (j : ℕ) → j < k → conflict_at touches log j k ≡ true → unfinished_at states j ≡ false
  clear_of_out j lt conflict = false_from_ne_true (unfinished_at states j) (λ unfinished.
      true≢false (sym (kept.ordered j k lt lt_log unfinished conflict) ∙ isnt_waiting))

  module _ (reply : Reply) where
    open-finished_other : (j : ℕ) → j ≢ k → unfinished_at (slice_set states k (Finished reply)) j ≡ unfinished_at states j
    open-finished_other j differs = state-set_other is_unfinished states k j (Finished reply) differs

    open-finished_same : unfinished_at (slice_set states k (Finished reply)) k ≡ false
    open-finished_same = state-set_same is_unfinished states k (Finished reply) lt_states

    -- whoever is unfinished afterwards was unfinished before, and is another
    still_open : (j : ℕ) → unfinished_at (slice_set states k (Finished reply)) j ≡ true → (j ≢ k) × (unfinished_at states j ≡ true)
    still_open j unfinished =
        let differs : j ≢ k = λ same. true≢false (sym unfinished ∙ ap (unfinished_at (slice_set states k (Finished reply))) same ∙ open-finished_same) in
        (differs, sym (open-finished_other j differs) ∙ unfinished)

    module _ (outputs : List ℤ) (long : length outputs ≡ length (touches b))
        (replied : reply ≡ reply_of touches effect (contents_after_first touches effect opening log k) b)
        (left : outputs ≡ (effect b (inputs_of touches effect (contents_after_first touches effect opening log k) b)).1) where
      touches_k : (cown : ℕ) → touches_at touches effect log cown k ≡ is_among cown (touches b)
      touches_k cown = ap (λ o. is_among cown (touched_by touches o)) here

      is_other : (cown : ℕ) → is_among cown (touches b) ≡ false → (j : ℕ) → touches_at touches effect log cown j ≡ true → j ≢ k
      is_other cown apart j at_j same = true≢false (sym at_j ∙ ap (touches_at touches effect log cown) same ∙ touches_k cown ∙ apart)

      settled_finished : (cown i : ℕ) → i ≤ length log → IsFinishedUpTo touches effect log (slice_set states k (Finished reply)) cown i
          → get_or (write_cowns held (touches b) outputs) cown (pos 0) ≡ get_or (contents_after_first touches effect opening log i) cown (pos 0)
      settled_finished cown i le finished_up_to = elim (cases_Bool (is_among cown (touches b))) [
        | inl among ↦
            let at_k : touches_at touches effect log cown k ≡ true = touches_k cown ∙ among in
            let after_k : k < i = (elim (cases_lt k i) [
              | inl lt ↦ lt
              | inr ge ↦ absurd (true≢false (sym (finished_up_to.after k ge at_k) ∙ open-finished_same))
            ]) in
            let before = contents_after_first touches effect opening log k in
            let in_range : cown < length opening = kept.in_range k cown at_k in
            get-write_same held before (touches b) outputs cown among long (omega (arith, in_range, kept.cown_count))
            (omega (arith, in_range, length-after touches effect opening (take k log)))
            ∙ ap (λ vs. get_or (write_cowns before (touches b) vs) cown (pos 0)) left
            ∙ ap (λ h. get_or h cown (pos 0)) (sym (after_one_more touches effect opening log k b here))
            ∙ sym (after_untouched touches effect opening log cown (suc k) (i - suc k) i (omega (arith, after_k))
            (λ j ge lt. false_from_ne_true (touches_at touches effect log cown j) (λ at_j.
            let waits : waiting_at states j ≡ true =
            kept.ordered k j (omega (arith, ge)) (touched_within touches effect log cown j at_j) out_unfinished
            (conflict_from touches effect log cown k j at_k at_j) in
            let differs : j ≢ k = λ same. omega (arith, same, ge) in
            true≢false (sym (open-finished_other j differs ∙ waiting_is_open states j waits) ∙ finished_up_to.before j lt at_j))))
        | inr apart ↦
            get-write_other held (touches b) outputs cown apart
            ∙ kept.finished_up_to cown i le (record {
              before = λ j lt at_j. sym (open-finished_other j (is_other cown apart j at_j)) ∙ finished_up_to.before j lt at_j;
              after = λ j ge at_j. sym (open-finished_other j (is_other cown apart j at_j)) ∙ finished_up_to.after j ge at_j;
            })
      ]

      pub keeps_finished : AgreesWithLog touches effect opening log (slice_set states k (Finished reply)) (write_cowns held (touches b) outputs)
      keeps_finished = record {
        same_length = kept.same_length ∙ sym (length-set states k (Finished reply));
        cown_count = length-write held (touches b) outputs ∙ kept.cown_count;
        opened = kept.opened;
        in_range = kept.in_range;
        ordered = λ j i before within unfinished conflict.
            let was = still_open j unfinished in
            let waits : waiting_at states i ≡ true = kept.ordered j i before within was.1 conflict in
            state-set_other is_waiting states k i (Finished reply) (λ same. true≢false (sym waits ∙ ap (waiting_at states) same ∙ isnt_waiting)) ∙ waits;
        finished_up_to = settled_finished;
        replies = λ i r finished. elim (cases_eq i k) [
          | inl same ↦
              let is_reply : reply ≡ r = same_reply (sym (slice_get-set_same states k (Finished reply) lt_states)
              ∙ ap (slice_get (slice_set states k (Finished reply))) (sym same) ∙ finished) in
              ap (λ n. option_map (reply_of touches effect (contents_after_first touches effect opening log n)) (slice_get log n)) same
              ∙ ap (option_map (reply_of touches effect (contents_after_first touches effect opening log k))) here
              ∙ ap (λ x. Some x) (sym replied ∙ is_reply)
          | inr differs ↦ kept.replies i r (sym (slice_get-set_other states k i (Finished reply) differs) ∙ finished)
        ];
      }
