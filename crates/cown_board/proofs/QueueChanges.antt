-- The queues of the cowns, after each change.
use Rattle.std.proofs.Common.{◌≡◌, inl, inr, ℕ, suc, ◌<◌, ℤ, true, false, ◌&&◌, Some, List, [], ◌∷◌, ◌++◌, length, length-append, drop, refl, sym, ap, ◌∙◌, arith}
use Rattle.std.specs.Prelude.{◌==◌, if◌then◌else◌, slice_get, slice_set, remove}
use Rattle.std.proofs.lemmas.Bool.{cases_Bool, cases_eq, and_parts, and_from, and_left, and_right, true≢false, false_from_ne_true, both_ways, or_cases, or_left, or_right, eqb-true}
use Rattle.std.proofs.lemmas.Option.{slice_get_within}
use Rattle.sb_calls.specs.SerialRun.{is_among}
use Rattle.sb_calls.specs.declared.reply.Reply.{Reply}
use Rattle.cown_queue.specs.Queues.{front_of, list_of, Appends, Releases, IsInFront}
use Rattle.sb_calls.proofs.CownContents.{shared_cown, eqb-refl}
use Rattle.cown_board.proofs.ReadyInputs.{conflict_from}
use Rattle.cown_board.proofs.PositionLaws.{chosen, positions-agree, positions-remove, place_first, none_before_first, none_below_at, none_below_from, but, but_other, but_same, slice_get-left, slice_get-right}
use Rattle.cown_board.proofs.StateChanges.{state-append, state-last, state-set_same, state-set_other}
use Rattle.cown_board.proofs.TakeInvariant.{open-taken}
use Rattle.cown_board.specs.inner.BoardInvariant.{AreQueues, is_queued, touches_at}
use Rattle.cown_board.specs.Positions.{positions}
use Rattle.cown_board.specs.Readiness.{touched_by, conflict_at}
use Rattle.cown_board.specs.State.{is_unfinished, unfinished_at}
use Rattle.cown_board.specs.declared.state.State.{State}
use Rattle.cown_board.specs.declared.state.State.TheVariants.{Waiting, Out, Finished}

module _ {B : Type 0} (touches : B → List ℕ) (effect : B → List ℤ → Reply × List ℤ) where
  -- what the last behaviour of a longer log declares
  last_touches : (log : List B) (b : B) (cown : ℕ) → touches_at touches effect (log ++ b ∷ []) cown (length log) ≡ is_among cown (touches b)
  last_touches log b cown = ap (λ o. is_among cown (touched_by touches o)) (slice_get-right log (b ∷ []) (length log) 0 (omega arith))

  queued_before : (log : List B) (states : List State) (b : B) (cown j : ℕ) → length log ≡ length states → j < length log
      → is_queued touches effect (log ++ b ∷ []) (states ++ Waiting ∷ []) cown j ≡ is_queued touches effect log states cown j
  queued_before log states b cown j same lt =
      ap (λ x. x && touches_at touches effect (log ++ b ∷ []) cown j) (state-append is_unfinished states Waiting j (omega (arith, same, lt)))
      ∙ ap (λ o. unfinished_at states j && is_among cown (touched_by touches o)) (slice_get-left log (b ∷ []) j lt)

  queued_last : (log : List B) (states : List State) (b : B) (cown : ℕ) → length log ≡ length states
      → is_queued touches effect (log ++ b ∷ []) (states ++ Waiting ∷ []) cown (length log) ≡ is_among cown (touches b)
  queued_last log states b cown same =
      ap (λ x. x && touches_at touches effect (log ++ b ∷ []) cown (length log)) (state-last is_unfinished states Waiting (length log) same)
      ∙ last_touches log b cown

  pub queues_submitted : (log : List B) (states : List State) (b : B) (old new : List (List ℕ)) (cowns : ℕ) → length log ≡ length states
      → AreQueues touches effect log states old cowns → Appends (length log) (touches b) old new
      → AreQueues touches effect (log ++ b ∷ []) (states ++ Waiting ∷ []) new cowns
  queues_submitted log states b old new cowns same queued appended = record {
    one_each = appended.cown_count ∙ queued.one_each;
    each = λ cown lt.
        let f = is_queued touches effect (log ++ b ∷ []) (states ++ Waiting ∷ []) cown in
        let before : positions f (length log) ≡ list_of old cown =
        positions-agree f (is_queued touches effect log states cown) (length log) (λ j lt. queued_before log states b cown j same lt)
        ∙ sym (queued.each cown lt) in
        let longer : length (log ++ b ∷ []) ≡ suc (length log) = length-append log (b ∷ []) ∙ omega arith in
        let changed = appended.each cown (omega (arith, lt, queued.one_each)) in
        sym (ap (positions f) longer ∙ ap (λ t. t ++ (if f (length log) then length log ∷ [] else [])) before
        ∙ ap (λ x. list_of old cown ++ (if x then length log ∷ [] else [])) (queued_last log states b cown same)
        ∙ chosen (is_among cown (touches b)) (list_of old cown) (length log)
        ∙ sym changed);
  }

  pub queues_taken : (log : List B) (states : List State) (lists : List (List ℕ)) (cowns k : ℕ) → slice_get states k ≡ Some Waiting
      → AreQueues touches effect log states lists cowns → AreQueues touches effect log (slice_set states k Out) lists cowns
  queues_taken log states lists cowns k here queued = record {
    one_each = queued.one_each;
    each = λ cown lt. queued.each cown lt
        ∙ positions-agree (is_queued touches effect log states cown) (is_queued touches effect log (slice_set states k Out) cown) (length log)
        (λ j lt. ap (λ x. x && touches_at touches effect log cown j) (sym (open-taken states k j here)));
  }

  -- an unfinished behaviour is in front at each of its cowns if no unfinished one before it shares
  -- a cown with it
  pub first_queued : (log : List B) (states : List State) (cown k : ℕ) → k < length log
      → unfinished_at states k ≡ true → touches_at touches effect log cown k ≡ true
      → ((j : ℕ) → j < k → conflict_at touches log j k ≡ true → unfinished_at states j ≡ false)
      → slice_get (positions (is_queued touches effect log states cown) (length log)) 0 ≡ Some k
  first_queued log states cown k lt unfinished among clear =
      place_first (is_queued touches effect log states cown) (length log) k lt
      (and_from (unfinished_at states k) (touches_at touches effect log cown k) unfinished among)
      (none_below_from (is_queued touches effect log states cown) k (λ j below. false_from_ne_true (is_queued touches effect log states cown j) (λ queued.
      let parts = and_parts (unfinished_at states j) (touches_at touches effect log cown j) queued in
      true≢false (sym parts.0 ∙ clear j below (conflict_from touches effect log cown j k parts.1 among)))))

  -- the cowns of one behaviour, one after the other
  module _ (log : List B) (states : List State) (lists : List (List ℕ)) (cowns : ℕ) (queued : AreQueues touches effect log states lists cowns)
      (k : ℕ) (b : B) (here : slice_get log k ≡ Some b) where
    touches_b : (cown : ℕ) → touches_at touches effect log cown k ≡ is_among cown (touches b)
    touches_b cown = ap (λ o. is_among cown (touched_by touches o)) here

    list_first : (cown : ℕ) → cown < cowns → front_of lists cown ≡ slice_get (positions (is_queued touches effect log states cown) (length log)) 0
    list_first cown lt = ap (λ xs. slice_get xs 0) (queued.each cown lt)

    -- it is in front at all of them
    pub fronts_from_clear : unfinished_at states k ≡ true → ((j : ℕ) → j < k → conflict_at touches log j k ≡ true → unfinished_at states j ≡ false)
        → (part : List ℕ) → ((cown : ℕ) → is_among cown part ≡ true → (is_among cown (touches b) ≡ true) × (cown < cowns)) → IsInFront k part lists
    fronts_from_clear unfinished clear [] known = tt
    fronts_from_clear unfinished clear (c ∷ part) known =
        let this = known c (or_left (c == c) (is_among c part) (eqb-refl c)) in (
          list_first c this.1 ∙ first_queued log states c k (slice_get_within log k b here) unfinished (touches_b c ∙ this.0) clear,
          fronts_from_clear unfinished clear part (λ cown among. known cown (or_right (cown == c) (is_among cown part) among)),
        )

    front_at : (part : List ℕ) (cown : ℕ) → IsInFront k part lists → is_among cown part ≡ true → front_of lists cown ≡ Some k
    front_at [] cown fronts among = absurd (true≢false (sym among))
    front_at (c ∷ part) cown fronts among = elim (or_cases (cown == c) (is_among cown part) among) [
      | inl same ↦ ap (front_of lists) (eqb-true cown c same) ∙ fronts.0
      | inr later ↦ front_at part cown fronts.1 later
    ]

    -- if it is in front at all of them, no unfinished one before it shares a cown with it
    pub clear_from_fronts : IsInFront k (touches b) lists → ((cown : ℕ) → is_among cown (touches b) ≡ true → cown < cowns)
        → (j : ℕ) → j < k → conflict_at touches log j k ≡ true → unfinished_at states j ≡ false
    clear_from_fronts fronts in_range j lt conflict =
        let shared = shared_cown (touched_by touches (slice_get log j)) (touched_by touches (slice_get log k)) conflict in
        let among : is_among shared.0 (touches b) ≡ true = sym (touches_b shared.0) ∙ shared.2 in
        let first = sym (list_first shared.0 (in_range shared.0 among)) ∙ front_at (touches b) shared.0 fronts among in
        let none = none_before_first (is_queued touches effect log states shared.0) (length log) k first in
        false_from_ne_true (unfinished_at states j) (λ unfinished.
        both_ways (is_queued touches effect log states shared.0 j)
        (none_below_at (is_queued touches effect log states shared.0) k j none lt)
        (and_from (unfinished_at states j) (touches_at touches effect log shared.0 j) unfinished shared.1))

  queued_finished : (log : List B) (states : List State) (cown k j : ℕ) (b : B) (reply : Reply) → k < length states → slice_get log k ≡ Some b
      → is_among cown (touches b) ≡ false
      → is_queued touches effect log (slice_set states k (Finished reply)) cown j ≡ is_queued touches effect log states cown j
  queued_finished log states cown k j b reply lt here apart = elim (cases_eq j k) [
    | inl same ↦
        let out : touches_at touches effect log cown j ≡ false = ap (touches_at touches effect log cown) same
        ∙ ap (λ o. is_among cown (touched_by touches o)) here ∙ apart in
        and_right (unfinished_at (slice_set states k (Finished reply)) j) (touches_at touches effect log cown j) out
        ∙ sym (and_right (unfinished_at states j) (touches_at touches effect log cown j) out)
    | inr differs ↦ ap (λ x. x && touches_at touches effect log cown j) (state-set_other is_unfinished states k j (Finished reply) differs)
  ]

  queued_but : (log : List B) (states : List State) (cown k j : ℕ) (reply : Reply) → k < length states
      → is_queued touches effect log (slice_set states k (Finished reply)) cown j ≡ but (is_queued touches effect log states cown) k j
  queued_but log states cown k j reply lt = elim (cases_eq j k) [
    | inl same ↦
        and_left (unfinished_at (slice_set states k (Finished reply)) j) (touches_at touches effect log cown j)
        (ap (unfinished_at (slice_set states k (Finished reply))) same ∙ state-set_same is_unfinished states k (Finished reply) lt)
        ∙ sym (but_same (is_queued touches effect log states cown) k j same)
    | inr differs ↦
        ap (λ x. x && touches_at touches effect log cown j) (state-set_other is_unfinished states k j (Finished reply) differs)
        ∙ sym (but_other (is_queued touches effect log states cown) k j differs)
  ]

  remove_first : (xs : List ℕ) → remove xs 0 ≡ drop 1 xs
  remove_first [] = refl
  remove_first (x ∷ xs) = refl

  pub queues_finished : (log : List B) (states : List State) (b : B) (old new : List (List ℕ)) (cowns k : ℕ) (reply : Reply) → length log ≡ length states
      → slice_get log k ≡ Some b → unfinished_at states k ≡ true → ((j : ℕ) → j < k → conflict_at touches log j k ≡ true → unfinished_at states j ≡ false)
      → AreQueues touches effect log states old cowns → Releases (touches b) old new
      → AreQueues touches effect log (slice_set states k (Finished reply)) new cowns
  queues_finished log states b old new cowns k reply same here unfinished clear queued released =
      let lt_log : k < length log = slice_get_within log k b here in
      let lt : k < length states = omega (arith, lt_log, same) in
      record {
        one_each = released.cown_count ∙ queued.one_each;
        each = λ cown in_range.
            let f = is_queued touches effect log states cown in
            let g = is_queued touches effect log (slice_set states k (Finished reply)) cown in
            let changed = released.each cown (omega (arith, in_range, queued.one_each)) in
            elim (cases_Bool (is_among cown (touches b))) [
              | inl among ↦
                  let at_k : touches_at touches effect log cown k ≡ true = ap (λ o. is_among cown (touched_by touches o)) here ∙ among in
                  changed ∙ ap (λ x. if x then drop 1 (list_of old cown) else list_of old cown) among
                  ∙ ap (drop 1) (queued.each cown in_range)
                  ∙ sym (positions-agree g (but f k) (length log) (λ j _. queued_but log states cown k j reply lt)
                  ∙ positions-remove f (length log) 0 k (first_queued log states cown k lt_log unfinished at_k clear)
                  ∙ remove_first (positions f (length log)))
              | inr apart ↦
                  changed ∙ ap (λ x. if x then drop 1 (list_of old cown) else list_of old cown) apart
                  ∙ queued.each cown in_range
                  ∙ sym (positions-agree g f (length log) (λ j _. queued_finished log states cown k j b reply lt here apart))
            ];
      }
