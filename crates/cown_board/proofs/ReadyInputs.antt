-- What the cowns of a behaviour hold once no unfinished one before it shares a cown with it.
use Rattle.std.proofs.Common.{◌≡◌, inl, inr, ℕ, ◌<◌, ◌≤◌, ℤ, true, false, Some, List, length, sym, ap, ◌∙◌, arith}
use Rattle.std.specs.Prelude.{slice_get}
use Rattle.std.proofs.lemmas.Bool.{cases_order, cases_lt, true≢false}
use Rattle.std.proofs.lemmas.Option.{slice_get_past}
use Rattle.sb_calls.specs.Cowns.{read_cowns}
use Rattle.sb_calls.specs.SerialRun.{is_among, inputs_of, contents_after_first}
use Rattle.sb_calls.specs.declared.reply.Reply.{Reply}
use Rattle.sb_calls.proofs.CownContents.{share_from, read-agree}
use Rattle.cown_board.proofs.StateChanges.{waiting_is_open}
use Rattle.cown_board.specs.inner.BoardInvariant.{AgreesWithLog, IsFinishedUpTo, touches_at}
use Rattle.cown_board.specs.State.{unfinished_at}
use Rattle.cown_board.specs.Readiness.{touched_by, conflict_at}
use Rattle.cown_board.specs.declared.state.State.{State}

module _ {B : Type 0} (touches : B → List ℕ) (effect : B → List ℤ → Reply × List ℤ) where
  -- a place at which a cown is declared is one of the log
  pub touched_within : (log : List B) (cown k : ℕ) → touches_at touches effect log cown k ≡ true → k < length log
  touched_within log cown k among = elim (cases_lt k (length log)) [
    | inl within ↦ within
    | inr past ↦ absurd (true≢false (sym among ∙ ap (λ o. is_among cown (touched_by touches o)) (slice_get_past log k past)))
  ]

  -- two that declare a cown share it
  pub conflict_from : (log : List B) (cown j k : ℕ) → touches_at touches effect log cown j ≡ true → touches_at touches effect log cown k ≡ true
      → conflict_at touches log j k ≡ true
  conflict_from log cown j k at_j at_k = share_from cown (touched_by touches (slice_get log j)) (touched_by touches (slice_get log k)) at_j at_k

  module _ {opening : List ℤ} {log : List B} {states : List State} {held : List ℤ} (kept : AgreesWithLog touches effect opening log states held)
      (k : ℕ) (unfinished : unfinished_at states k ≡ true) (clear : (j : ℕ) → j < k → conflict_at touches log j k ≡ true → unfinished_at states j ≡ false) where
    -- its cowns are finished up to its position
    pub settled_at : (cown : ℕ) → touches_at touches effect log cown k ≡ true → IsFinishedUpTo touches effect log states cown k
    settled_at cown among = record {
      before = λ j lt at_j. clear j lt (conflict_from log cown j k at_j among);
      after = λ j le at_j. elim (cases_order k j) [
        | inl same ↦ ap (unfinished_at states) (sym same) ∙ unfinished
        | inr either ↦ elim either [
          | inl later ↦ waiting_is_open states j (kept.ordered k j later (touched_within log cown j at_j) unfinished (conflict_from log cown k j among at_j))
          | inr base_replies ↦ absurd (omega (arith, base_replies, le))
        ]
      ];
    }

    -- so they hold its inputs in the log run one by one
    pub holds_inputs : (b : B) → slice_get log k ≡ Some b → k ≤ length log
        → read_cowns held (touches b) ≡ inputs_of touches effect (contents_after_first touches effect opening log k) b
    holds_inputs b here le = read-agree held (contents_after_first touches effect opening log k) (touches b) (λ cown among.
        kept.finished_up_to cown k le (settled_at cown (ap (λ o. is_among cown (touched_by touches o)) here ∙ among)))
