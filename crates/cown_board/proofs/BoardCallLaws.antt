-- A board after many calls.
use Rattle.std.proofs.Common.{◌≡◌, ◌⊎◌, inl, inr, ℕ, suc, ◌+◌, ◌<◌, ◌≤◌, ℤ, true, false, ◌&&◌, Option, Some, None, Ok, Err, List, [], ◌∷◌, ◌++◌, length, length-append, refl, sym, ap, subst, ◌∙◌, arith}
use Rattle.std.specs.Prelude.{slice_get, slice_set, option_map}
use Rattle.std.proofs.lemmas.Bool.{cases_eq, cases_lt, and_from, true≢false, false_from_ne_true, and_parts}
use Rattle.std.proofs.lemmas.List.{length-set, append_assoc}
use Rattle.std.proofs.lemmas.Option.{slice_get_within}
use Rattle.sb_rows.specs.Balances.{Balances}
use Rattle.sb_calls.specs.Cowns.{contents_of}
use Rattle.sb_calls.specs.SerialRun.{contents_after_first, reply_of, reply_by_log}
use Rattle.sb_calls.specs.declared.reply.Reply.{Reply}
use Rattle.cown_board.proofs.LogLaws.{injective, no_some, after-append}
use Rattle.cown_board.proofs.PositionLaws.{append_nothing, none_below_from, slice_get-left, slice_get-right}
use Rattle.cown_board.proofs.StateChanges.{slice_get-set_same, slice_get-set_other}
use Rattle.cown_board.proofs.SubmitInvariant.{not_waiting}
use Rattle.cown_board.proofs.TakeInvariant.{not_out}
use Rattle.cown_board.proofs.FinishInvariant.{same_reply}
use Rattle.cown_board.specs.Board.{BoardOf, length_of}
use Rattle.cown_board.specs.BoardCalls.{BoardCall, Submitted, TakenAt, Returned, CutMade, CutDropped, HasCallEffect, Plays, BoardLaw, board_at_opening, submitted_by, submitted_by_all}
use Rattle.cown_board.specs.Readiness.{conflict_at, is_clear_at, is_ready_at}
use Rattle.cown_board.specs.State.{is_unfinished, is_waiting, state_is, unfinished_at}
use Rattle.cown_board.specs.inner.StateTests.{waiting_at}
use Rattle.cown_board.specs.declared.board.SubmitFault.TheVariants.{Busy, LogFull, OutOfMemory}
use Rattle.cown_board.specs.declared.cut.CutFault.TheVariants.{Pending, OutOfMemory as NoMemory}
use Rattle.cown_board.specs.declared.state.State.{State}
use Rattle.cown_board.specs.declared.state.State.TheVariants.{Waiting, Out, Finished}

-- an unfinished state waits or is out
waits_or_out : (o : Option State) → state_is is_unfinished o ≡ true → (o ≡ Some Waiting) ⊎ (o ≡ Some Out)
waits_or_out None h = absurd (true≢false (sym h))
waits_or_out (Some Waiting) h = inl refl
waits_or_out (Some Out) h = inr refl
waits_or_out (Some (Finished reply)) h = absurd (true≢false (sym h))

module _ {B : Type 0} (touches : B → List ℕ) (effect : B → List ℤ → Reply × List ℤ) where
  -- the invariant after each call
  pub record IsGood (columns : Balances) (base_replies : List Reply) (submitted : List B) (board : BoardOf B) : Type 0 where
    pub opening : board.opening ≡ columns
    pub before : board.base_replies ≡ base_replies
    pub log : board.log ≡ submitted
    pub same_length : length board.log ≡ length board.states
    pub replies : (k : ℕ) (reply : Reply) → slice_get board.states k ≡ Some (Finished reply)
        → reply_by_log touches effect (contents_of columns) board.log (suc k) ≡ Some reply
    pub cut : (number : ℕ) → board.cut ≡ Some number → (length base_replies ≤ number) × (number ≤ length_of board)

  least_of : (board : BoardOf B) (k : ℕ) → unfinished_at board.states k ≡ true → ((j : ℕ) → j < k → unfinished_at board.states j ≡ false)
      → (is_ready_at touches board.log board.states k ≡ true) ⊎ (slice_get board.states k ≡ Some Out)
  least_of board k unfinished none = elim (waits_or_out (slice_get board.states k) unfinished) [
    | inl waits ↦ inl (and_from (waiting_at board.states k) (is_clear_at touches board.log board.states k) (ap (state_is is_waiting) waits)
        (none_below_from (λ j. unfinished_at board.states j && conflict_at touches board.log j k) k
        (λ j lt. false_from_ne_true (unfinished_at board.states j && conflict_at touches board.log j k) (λ both.
        true≢false (sym (and_parts (unfinished_at board.states j) (conflict_at touches board.log j k) both).0 ∙ none j lt)))))
    | inr out ↦ inr out
  ]

  good_submitted : (columns : Balances) (base_replies : List Reply) (log : List B) (old : BoardOf B) (b : B) → IsGood columns base_replies log old
      → IsGood columns base_replies (log ++ b ∷ []) (record old { log = old.log ++ b ∷ []; states = old.states ++ Waiting ∷ [] })
  good_submitted columns base_replies log old b good = record {
    opening = good.opening;
    before = good.before;
    log = ap (λ l. l ++ b ∷ []) good.log;
    same_length = length-append old.log (b ∷ []) ∙ ap (λ n. n + 1) good.same_length ∙ sym (length-append old.states (Waiting ∷ []));
    replies = λ k reply finished.
        let more : length (old.states ++ Waiting ∷ []) ≡ length old.states + 1 = length-append old.states (Waiting ∷ []) in
        let lt = slice_get_within (old.states ++ Waiting ∷ []) k (Finished reply) finished in
        elim (cases_lt k (length old.states)) [
          | inl before ↦
              ap (λ h. option_map (reply_of touches effect h) (slice_get (old.log ++ b ∷ []) k))
              (after-append touches effect (contents_of columns) old.log (b ∷ []) k (omega (arith, before, good.same_length)))
              ∙ ap (option_map (reply_of touches effect (contents_after_first touches effect (contents_of columns) old.log k)))
              (slice_get-left old.log (b ∷ []) k (omega (arith, before, good.same_length)))
              ∙ good.replies k reply (sym (slice_get-left old.states (Waiting ∷ []) k before) ∙ finished)
          | inr last ↦ absurd (not_waiting (injective (sym (slice_get-right old.states (Waiting ∷ []) k 0 (omega (arith, lt, more, last))) ∙ finished)))
        ];
    cut = λ number here.
        let before = good.cut number here in
        let more : length (old.log ++ b ∷ []) ≡ length old.log + 1 = length-append old.log (b ∷ []) in
        (before.0, omega (arith, before.1, more));
  }

  good_set : (columns : Balances) (base_replies : List Reply) (log : List B) (old : BoardOf B) (k : ℕ) (s : State) → IsGood columns base_replies log old
      → k < length old.states
      → ((reply : Reply) → s ≡ Finished reply → reply_by_log touches effect (contents_of columns) old.log (suc k) ≡ Some reply)
      → IsGood columns base_replies log (record old { states = slice_set old.states k s })
  good_set columns base_replies log old k s good lt told = record {
    opening = good.opening;
    before = good.before;
    log = good.log;
    same_length = good.same_length ∙ sym (length-set old.states k s);
    replies = λ j reply finished. elim (cases_eq j k) [
      | inl same ↦
          ap (λ i. reply_by_log touches effect (contents_of columns) old.log (suc i)) same
          ∙ told reply (injective (sym (slice_get-set_same old.states k s lt) ∙ ap (slice_get (slice_set old.states k s)) (sym same) ∙ finished))
      | inr differs ↦ good.replies j reply (sym (slice_get-set_other old.states k j s differs) ∙ finished)
    ];
    cut = good.cut;
  }

  good_cut : (columns : Balances) (base_replies : List Reply) (log : List B) (old : BoardOf B) (cut : Option ℕ) → IsGood columns base_replies log old
      → ((number : ℕ) → cut ≡ Some number → (length base_replies ≤ number) × (number ≤ length_of old))
      → IsGood columns base_replies (log ++ []) (record old { cut = cut })
  good_cut columns base_replies log old cut good within = record {
    opening = good.opening;
    before = good.before;
    log = good.log ∙ sym (append_nothing log);
    same_length = good.same_length;
    replies = good.replies;
    cut = within;
  }

  unchanged : (columns : Balances) (base_replies : List Reply) (log : List B) (old new : BoardOf B) → new ≡ old → IsGood columns base_replies log old
      → IsGood columns base_replies (log ++ []) new
  unchanged columns base_replies log old new same good =
      subst (λ board. IsGood columns base_replies (log ++ []) board) (sym same) (subst (λ l. IsGood columns base_replies l old) (sym (append_nothing log)) good)

  good_call : (columns : Balances) (base_replies : List Reply) (log : List B) (old new : BoardOf B) (call : BoardCall B)
      → HasCallEffect touches effect old call new
      → IsGood columns base_replies log old → IsGood columns base_replies (log ++ submitted_by call) new
  good_call columns base_replies log old new (Submitted b (Ok number)) made good =
      subst (IsGood columns base_replies (log ++ b ∷ [])) (sym made.3) (good_submitted columns base_replies log old b good)
  good_call columns base_replies log old new (Submitted b (Err Busy)) made good = unchanged columns base_replies log old new made.1 good
  good_call columns base_replies log old new (Submitted b (Err LogFull)) made good = unchanged columns base_replies log old new made.2 good
  good_call columns base_replies log old new (Submitted b (Err OutOfMemory)) made good = unchanged columns base_replies log old new made.2 good
  good_call columns base_replies log old new (TakenAt index None) made good = unchanged columns base_replies log old new made.1 good
  good_call columns base_replies log old new (TakenAt index (Some job)) made good =
      let lt = slice_get_within old.log made.position job.behaviour made.behaviour in
      subst (IsGood columns base_replies (log ++ [])) (sym made.out)
      (subst (λ l. IsGood columns base_replies l (record old { states = slice_set old.states made.position Out })) (sym (append_nothing log))
      (good_set columns base_replies log old made.position Out good (omega (arith, lt, good.same_length)) (λ reply out. absurd (not_out out))))
  good_call columns base_replies log old new (Returned done (Ok reply)) made good =
      let lt = slice_get_within old.states made.position Out made.here.out in
      subst (IsGood columns base_replies (log ++ [])) (sym made.finished)
      (subst (λ l. IsGood columns base_replies l (record old { states = slice_set old.states made.position (Finished reply) })) (sym (append_nothing log))
      (good_set columns base_replies log old made.position (Finished reply) good lt (λ r is.
      ap (λ opening. reply_by_log touches effect (contents_of opening) old.log (suc made.position)) (sym good.opening) ∙ made.by_log
      ∙ ap (λ x. Some x) (same_reply (ap (λ s. Some s) is)))))
  good_call columns base_replies log old new (Returned done (Err back)) made good = unchanged columns base_replies log old new made.2 good
  good_call columns base_replies log old new (CutMade (Ok number)) made good =
      subst (IsGood columns base_replies (log ++ [])) (sym made.2) (good_cut columns base_replies log old (Some (length_of old)) good
      (λ n is. let last = injective is in (omega (arith, last, ap length good.before), omega (arith, last))))
  good_call columns base_replies log old new (CutMade (Err (Pending number))) made good = unchanged columns base_replies log old new made.1 good
  good_call columns base_replies log old new (CutMade (Err NoMemory)) made good = unchanged columns base_replies log old new made.1 good
  good_call columns base_replies log old new CutDropped made good =
      subst (IsGood columns base_replies (log ++ [])) (sym made) (good_cut columns base_replies log old None good (λ n is. absurd (no_some is)))

  good_calls : (columns : Balances) (base_replies : List Reply) (log : List B) (old new : BoardOf B) (calls : List (BoardCall B))
      → Plays touches effect old calls new
      → IsGood columns base_replies log old → IsGood columns base_replies (log ++ submitted_by_all calls) new
  good_calls columns base_replies log old new [] played good = unchanged columns base_replies log old new played good
  good_calls columns base_replies log old new (call ∷ calls) played good =
      subst (λ l. IsGood columns base_replies l new) (append_assoc log (submitted_by call) (submitted_by_all calls))
      (good_calls columns base_replies (log ++ submitted_by call) played.0 new calls played.2
      (good_call columns base_replies log old played.0 call played.1 good))

  pub board_law : BoardLaw touches effect
  board_law columns base_replies calls board played =
      let good = good_calls columns base_replies [] (board_at_opening columns base_replies) board calls played
      (record {
        opening = refl;
        before = refl;
        log = refl;
        same_length = refl;
        replies = λ k reply finished. absurd (no_some finished);
        cut = λ number here. absurd (no_some here);
      }) in
      record {
        opening = good.opening;
        before = good.before;
        log = good.log;
        replies = good.replies;
        least = least_of board;
        cut = good.cut;
      }
