-- The number of cowns at which each behaviour isn't in front, after each change.
use Rattle.std.proofs.Common.{◌≡◌, ◌≢◌, inl, inr, ℕ, zero, suc, ◌+◌, ◌<◌, ◌≤◌, ℤ, Bool, true, false, not, ◌&&◌, Some, List, [], ◌∷◌, ◌++◌, length, length-append, get_or, drop, refl, sym, ap, ◌∙◌, arith}
use Rattle.std.specs.Prelude.{◌==◌, if◌then◌else◌, All, count_by, slice_get, slice_set, remove}
use Rattle.std.proofs.lemmas.Bool.{cases_Bool, cases_eq, cases_order, and_left, and_parts, true≢false, false_from_ne_true}
use Rattle.std.proofs.lemmas.List.{get_or_push}
use Rattle.std.proofs.lemmas.Option.{slice_get_within}
use Rattle.sb_calls.specs.Cowns.{AreBelow, IsRising}
use Rattle.sb_calls.specs.SerialRun.{is_among}
use Rattle.sb_calls.specs.declared.reply.Reply.{Reply}
use Rattle.cown_queue.specs.Queues.{front_of, fronts_of, list_of, Appends, Releases}
use Rattle.cown_board.proofs.CownCounts.{count_by-positions, front_among, is_among-get, occurrences-fronts, times_none}
use Rattle.cown_board.proofs.FrontLaws.{count_by-agree, first-last, first_chosen, first_to}
use Rattle.cown_board.proofs.ReadyInputs.{conflict_from}
use Rattle.cown_board.proofs.CownLists.{below_from}
use Rattle.cown_board.proofs.LogLaws.{injective, some_at}
use Rattle.cown_board.proofs.PositionLaws.{one, chosen, positions-agree, positions-remove, place_is, length-places_add, but, but_other, but_same, slice_get-left, slice_get-right}
use Rattle.cown_board.proofs.StateChanges.{state-append, state-last, state-set_same, state-set_other, state_here, waiting-finished, waiting_within}
use Rattle.cown_queue.specs.inner.Occurrences.{occurrences}
use Rattle.cown_board.specs.inner.DuePositions.{AreDue, is_due}
use Rattle.cown_board.specs.inner.Fronts.{behind_at, behind_of, is_first, is_occupied}
use Rattle.cown_board.specs.inner.BoardInvariant.{AreCounts, AreQueues, is_queued, touches_at}
use Rattle.cown_board.specs.Positions.{positions}
use Rattle.cown_board.specs.Readiness.{conflict_at, touched_by}
use Rattle.cown_board.specs.State.{is_unfinished, is_waiting, unfinished_at}
use Rattle.cown_board.specs.inner.StateTests.{waiting_at}
use Rattle.cown_board.specs.declared.state.State.{State}
use Rattle.cown_board.specs.declared.state.State.TheVariants.{Waiting, Out, Finished}

-- an element before the end of a longer list
get_or-before : (xs : List ℕ) (m i d : ℕ) → i < length xs → get_or (xs ++ m ∷ []) i d ≡ get_or xs i d
get_or-before [] m i d lt = absurd (omega (arith, lt))
get_or-before (x ∷ xs) m zero d lt = refl
get_or-before (x ∷ xs) m (suc i) d lt = get_or-before xs m i d (omega (arith, lt))

-- of its cowns: it comes to the front only where it wasn't, and everywhere else nothing changes
split : (tj tk fo fn : Bool) → (tk ≡ true → fo ≡ false) → (fn ≡ true → tk ≡ true → tj ≡ true) → (tk ≡ false → fn ≡ fo)
    → one (tj && not fo) ≡ one (tj && not fn) + one (tk && fn)
split tj true true fn was known alike = absurd (true≢false (was refl))
split true true false true was known alike = refl
split true true false false was known alike = refl
split false true false true was known alike = absurd (true≢false (sym (known refl refl)))
split false true false false was known alike = refl
split true false true true was known alike = refl
split true false true false was known alike = absurd (true≢false (sym (alike refl)))
split true false false true was known alike = absurd (true≢false (alike refl))
split true false false false was known alike = refl
split false false fo fn was known alike = refl

module _ {B : Type 0} (touches : B → List ℕ) (effect : B → List ℤ → Reply × List ℤ) where
  -- ---- one more is submitted

  module _ (log : List B) (states : List State) (b : B) (old new : List (List ℕ)) (cowns : ℕ) (same : length log ≡ length states)
      (queued : AreQueues touches effect log states old cowns) (appended : Appends (length log) (touches b) old new)
      (within : (k cown : ℕ) → touches_at touches effect log cown k ≡ true → cown < cowns)
      (fits : (cown : ℕ) → is_among cown (touches b) ≡ true → cown < cowns) where
    -- those before it are in front at the same cowns as before
    behind_before : (j : ℕ) → j < length log → behind_of touches (log ++ b ∷ []) new j ≡ behind_of touches log old j
    behind_before j lt =
        ap (λ o. behind_at j new (touched_by touches o)) (slice_get-left log (b ∷ []) j lt)
        ∙ count_by-agree (λ cown. not (is_first j (list_of new cown))) (λ cown. not (is_first j (list_of old cown)))
        (touched_by touches (slice_get log j)) (λ cown among.
        let in_range = within j cown among in
        ap (λ xs. not (is_first j xs)) (appended.each cown (omega (arith, in_range, queued.one_each)))
        ∙ ap not (first_chosen (is_among cown (touches b)) j (length log) (list_of old cown) (λ e. omega (arith, e, lt))))

    -- and it isn't in front where a cown already had a number
    behind_last : behind_of touches (log ++ b ∷ []) new (length log) ≡ count_by (is_occupied old) (touches b)
    behind_last =
        ap (λ o. behind_at (length log) new (touched_by touches o)) (slice_get-right log (b ∷ []) (length log) 0 (omega arith))
        ∙ count_by-agree (λ cown. not (is_first (length log) (list_of new cown))) (is_occupied old) (touches b) (λ cown among.
        let in_range = fits cown among in
        ap (λ xs. not (is_first (length log) xs)) (appended.each cown (omega (arith, in_range, queued.one_each))
        ∙ ap (λ x. if x then list_of old cown ++ length log ∷ [] else list_of old cown) among)
        ∙ first-last (length log) (list_of old cown) (λ x first.
        let found =
        place_is (is_queued touches effect log states cown) (length log) 0 x (ap (λ xs. slice_get xs 0) (sym (queued.each cown in_range)) ∙ first) in
        λ e. omega (arith, e, found.0)))

    pub counts_submitted : (behind ready : List ℕ) (m : ℕ) → m ≡ count_by (is_occupied old) (touches b) → AreCounts touches effect log states old behind ready
        → AreCounts touches effect (log ++ b ∷ []) (states ++ Waiting ∷ []) new (behind ++ m ∷ []) (if m == 0 then ready ++ length log ∷ [] else ready)
    counts_submitted behind ready m held counts =
        let longer : length (log ++ b ∷ []) ≡ suc (length log) = length-append log (b ∷ []) ∙ omega arith in
        let more : length (behind ++ m ∷ []) ≡ length behind + 1 = length-append behind (m ∷ []) in
        let waits : List State = states ++ Waiting ∷ [] in
        let due = is_due (waiting_at waits) (behind ++ m ∷ []) in
        let last : get_or (behind ++ m ∷ []) (length log) 0 ≡ m = get_or_push behind m 0 (length log) counts.same_length in
        let due_before : positions due (length log) ≡ ready =
        positions-agree due (is_due (waiting_at states) behind) (length log) (λ j lt.
        ap (λ x. x && (get_or (behind ++ m ∷ []) j 0 == 0)) (state-append is_waiting states Waiting j (omega (arith, same, lt)))
        ∙ ap (λ n. waiting_at states j && (n == 0)) (get_or-before behind m j 0 (omega (arith, lt, counts.same_length))))
        ∙ sym counts.listed in
        let due_last : due (length log) ≡ (m == 0) =
        ap (λ x. x && (get_or (behind ++ m ∷ []) (length log) 0 == 0)) (state-last is_waiting states Waiting (length log) same)
        ∙ ap (λ n. n == 0) last in
        record {
          same_length = omega (arith, longer, more, counts.same_length);
          counted = λ k waiting. elim (cases_eq k (length log)) [
            | inl here ↦
                ap (λ n. get_or (behind ++ m ∷ []) n 0) here ∙ last ∙ held
                ∙ sym (ap (behind_of touches (log ++ b ∷ []) new) here ∙ behind_last)
            | inr differs ↦
                let all = waiting_within waits k waiting in
                let many : length waits ≡ length states + 1 = length-append states (Waiting ∷ []) in
                let lt : k < length log = omega (arith, all, many, same, differs) in
                get_or-before behind m k 0 (omega (arith, lt, counts.same_length))
                ∙ counts.counted k (sym (state-append is_waiting states Waiting k (omega (arith, lt, same))) ∙ waiting)
                ∙ sym (behind_before k lt)
          ];
          listed =
              sym (ap (positions due) longer ∙ ap (λ t. t ++ (if due (length log) then length log ∷ [] else [])) due_before
              ∙ ap (λ x. ready ++ (if x then length log ∷ [] else [])) due_last ∙ chosen (m == 0) ready (length log));
        }

  -- ---- a ready one is handed out

  pub counts_taken : (log : List B) (states : List State) (lists : List (List ℕ)) (behind ready : List ℕ) (index k : ℕ) → slice_get states k ≡ Some Waiting
      → slice_get ready index ≡ Some k → AreCounts touches effect log states lists behind ready
      → AreCounts touches effect log (slice_set states k Out) lists behind (remove ready index)
  counts_taken log states lists behind ready index k here at counts =
      let lt : k < length states = slice_get_within states k Waiting here in
      let due = is_due (waiting_at states) behind in
      record {
        same_length = counts.same_length;
        counted = λ j waiting. elim (cases_eq j k) [
          | inl same ↦ absurd (true≢false (sym waiting ∙ ap (waiting_at (slice_set states k Out)) same ∙ state-set_same is_waiting states k Out lt))
          | inr differs ↦ counts.counted j (sym (state-set_other is_waiting states k j Out differs) ∙ waiting)
        ];
        listed =
            ap (λ r. remove r index) counts.listed
            ∙ sym (positions-agree (is_due (waiting_at (slice_set states k Out)) behind) (but due k) (length log) (λ j _. elim (cases_eq j k) [
              | inl same ↦
                  and_left (waiting_at (slice_set states k Out) j) (get_or behind j 0 == 0)
                  (ap (waiting_at (slice_set states k Out)) same ∙ state-set_same is_waiting states k Out lt)
                  ∙ sym (but_same due k j same)
              | inr differs ↦
                  ap (λ x. x && (get_or behind j 0 == 0)) (state-set_other is_waiting states k j Out differs)
                  ∙ sym (but_other due k j differs)
            ])
            ∙ positions-remove due (length log) index k (ap (λ r. slice_get r index) (sym counts.listed) ∙ at));
      }

  -- ---- one that is out is finished

  module _ (log : List B) (states : List State) (old new : List (List ℕ)) (cowns : ℕ) (k : ℕ) (b : B) (reply : Reply)
      (rising : (b : B) → IsRising (touches b))
      (ordered : (i j : ℕ) → i < j → j < length log → unfinished_at states i ≡ true → conflict_at touches log i j ≡ true → waiting_at states j ≡ true)
      (in_range : (j cown : ℕ) → touches_at touches effect log cown j ≡ true → cown < cowns)
      (same : length log ≡ length states) (here : slice_get log k ≡ Some b) (out : slice_get states k ≡ Some Out)
      (clear : (j : ℕ) → j < k → conflict_at touches log j k ≡ true → unfinished_at states j ≡ false)
      (front : (cown : ℕ) → is_among cown (touches b) ≡ true → front_of old cown ≡ Some k)
      (queued : AreQueues touches effect log states old cowns)
      (left : AreQueues touches effect log (slice_set states k (Finished reply)) new cowns)
      (released : Releases (touches b) old new) where
    touches_k : (cown : ℕ) → touches_at touches effect log cown k ≡ is_among cown (touches b)
    touches_k cown = ap (λ o. is_among cown (touched_by touches o)) here

    -- who is in front afterwards is unfinished, declares the cown, and is another
    front_after : (cown j : ℕ) → cown < cowns → front_of new cown ≡ Some j
        → (j < length log) × (j ≢ k) × (unfinished_at states j ≡ true) × (touches_at touches effect log cown j ≡ true)
    front_after cown j lt first =
        let found = place_is (is_queued touches effect log (slice_set states k (Finished reply)) cown) (length log) 0 j
        (ap (λ xs. slice_get xs 0) (sym (left.each cown lt)) ∙ first) in
        let parts = and_parts (unfinished_at (slice_set states k (Finished reply)) j) (touches_at touches effect log cown j) found.1 in
        let differs : j ≢ k = λ at_k. true≢false (sym parts.0 ∙ ap (unfinished_at (slice_set states k (Finished reply))) at_k
        ∙ state-set_same is_unfinished states k (Finished reply) (slice_get_within states k Out out)) in
        (found.0, differs, sym (state-set_other is_unfinished states k j (Finished reply) differs) ∙ parts.0, parts.1)

    -- whoever comes to the front waits
    pub front_waits : (j : ℕ) → is_among j (fronts_of new (touches b)) ≡ true → (j < length log) × (waiting_at states j ≡ true)
    front_waits j among =
        let found = front_among new (touches b) j among in
        let at_k : touches_at touches effect log found.0 k ≡ true = touches_k found.0 ∙ found.1 in
        let known = front_after found.0 j (in_range k found.0 at_k) found.2 in
        let conflict = conflict_from touches effect log found.0 in
        elim (cases_order j k) [
          | inl at_k ↦ absurd (known.1 at_k)
          | inr either ↦ elim either [
            | inl before ↦ absurd (true≢false (sym known.2 ∙ clear j before (conflict j k known.3 at_k)))
            | inr after ↦
                (known.0, ordered k j after known.0 (state_here is_unfinished states k Out out) (conflict k j at_k known.3))
          ]
        ]

    -- it is behind at fewer cowns, by the number at which it comes to the front
    pub behind_fewer : (j : ℕ) (c : B) → slice_get log j ≡ Some c → j ≢ k → AreBelow cowns (touches c) → AreBelow cowns (touches b)
        → behind_of touches log new j + occurrences j (fronts_of new (touches b)) ≡ behind_of touches log old j
    behind_fewer j c at differs below_j below_k =
        let touched : touched_by touches (slice_get log j) ≡ touches c = ap (touched_by touches) at in
        let first_old : ℕ → Bool = λ cown. is_first j (list_of old cown) in
        let first_new : ℕ → Bool = λ cown. is_first j (list_of new cown) in
        let a : behind_of touches log old j ≡ length (positions (λ x. is_among x (touches c) && not (first_old x)) cowns) =
        ap (behind_at j old) touched ∙ count_by-positions (λ cown. not (first_old cown)) (touches c) cowns (rising c) below_j in
        let d : behind_of touches log new j ≡ length (positions (λ x. is_among x (touches c) && not (first_new x)) cowns) =
        ap (behind_at j new) touched ∙ count_by-positions (λ cown. not (first_new cown)) (touches c) cowns (rising c) below_j in
        let e : occurrences j (fronts_of new (touches b)) ≡ length (positions (λ x. is_among x (touches b) && first_new x) cowns) =
        occurrences-fronts new (touches b) j ∙ count_by-positions first_new (touches b) cowns (rising b) below_k in
        let all = length-places_add (λ x. is_among x (touches c) && not (first_old x)) (λ x. is_among x (touches c) && not (first_new x))
        (λ x. is_among x (touches b) && first_new x) cowns (λ x lt.
        split (is_among x (touches c)) (is_among x (touches b)) (first_old x) (first_new x)
        (λ among. false_from_ne_true (first_old x) (λ first. differs (injective (sym (first_to (list_of old x) j first) ∙ front x among))))
        (λ first among.
        let known = front_after x j lt (first_to (list_of new x) j first) in
        ap (is_among x) (sym touched) ∙ known.3)
        (λ apart. ap (is_first j) (released.each x (omega (arith, lt, queued.one_each))
        ∙ ap (λ y. if y then drop 1 (list_of old x) else list_of old x) apart))) in
        omega (arith, a, d, e, all)

    other_than : (j : ℕ) → waiting_at states j ≡ true → j ≢ k
    other_than j waiting at_k = true≢false (sym waiting ∙ ap (waiting_at states) at_k ∙ state_here is_waiting states k Out out)

    declared : (j : ℕ) (c : B) → slice_get log j ≡ Some c → AreBelow cowns (touches c)
    declared j c at = below_from cowns (touches c) (λ cown among. in_range j cown (ap (λ o. is_among cown (touched_by touches o)) at ∙ among))

    module _ (behind ready : List ℕ) (counts : AreCounts touches effect log states old behind ready) where
      -- so for a waiting one the new count is known
      known_fewer : (j : ℕ) → waiting_at states j ≡ true → behind_of touches log new j + occurrences j (fronts_of new (touches b)) ≡ get_or behind j 0
      known_fewer j waiting =
          let all = waiting_within states j waiting in
          let found = some_at log j (omega (arith, all, same)) in
          behind_fewer j found.0 found.1 (other_than j waiting) (declared j found.0 found.1) (declared k b here) ∙ sym (counts.counted j waiting)

      -- who comes to the front was behind at least that often
      pub fronts_counted : (j : ℕ) → occurrences j (fronts_of new (touches b)) ≤ get_or behind j 0
      fronts_counted j = elim (cases_Bool (is_among j (fronts_of new (touches b)))) [
        | inl among ↦ (let known = known_fewer j (front_waits j among).1 in omega (arith, known))
        | inr out ↦ (let none = times_none j (fronts_of new (touches b)) out in omega (arith, none))
      ]

      pub fronts_wait : All (λ position. (position < length log) × (waiting_at states position ≡ true)) (fronts_of new (touches b))
      fronts_wait i d lt = front_waits (get_or (fronts_of new (touches b)) i d) (is_among-get (fronts_of new (touches b)) i d lt)

      pub counts_finished : (behind' ready' : List ℕ) → length behind' ≡ length behind
          → ((j : ℕ) → get_or behind' j 0 + occurrences j (fronts_of new (touches b)) ≡ get_or behind j 0)
          → AreDue (waiting_at states) behind' (length log) ready'
          → AreCounts touches effect log (slice_set states k (Finished reply)) new behind' ready'
      counts_finished behind' ready' long fewer due = record {
        same_length = long ∙ counts.same_length;
        counted = λ j waiting. elim (cases_eq j k) [
          | inl at_k ↦
              absurd (true≢false (sym waiting ∙ ap (waiting_at (slice_set states k (Finished reply))) at_k
              ∙ state-set_same is_waiting states k (Finished reply) (slice_get_within states k Out out)))
          | inr differs ↦
              let known = known_fewer j (sym (state-set_other is_waiting states k j (Finished reply) differs) ∙ waiting) in
              let less = fewer j in
              omega (arith, known, less)
        ];
        listed =
            due ∙ positions-agree (is_due (waiting_at states) behind') (is_due (waiting_at (slice_set states k (Finished reply))) behind') (length log)
            (λ j _. ap (λ x. x && (get_or behind' j 0 == 0)) (sym (waiting-finished states k j reply out)));
      }
