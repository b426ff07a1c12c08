-- If all are linked, the list has the ready places.
use Rattle.std.proofs.Common.{◌≡◌, inl, inr, ℕ, ◌+◌, ◌<◌, ◌≤◌, ℤ, true, false, ◌&&◌, Option, Some, None, List, length, get_or, sym, ap, subst, ◌∙◌}
use Rattle.std.specs.Prelude.{◌==◌, slice_get, slice_set, remove, MatchOption}
use Rattle.std.specs.VecDeque.{deque_capacity}
use Rattle.std.proofs.lemmas.Bool.{cases_Bool, eqb-true, eq-eqb, and_parts, and_from, and_left, true≢false, both_ways, false_from_ne_true}
use Rattle.sb_calls.specs.SerialRun.{is_among}
use Rattle.sb_calls.specs.declared.reply.Reply.{Reply}
use Rattle.cown_board.proofs.BehindCounts.{counts_taken}
use Rattle.cown_board.proofs.FrontLaws.{same_tests, none_behind, fronts_from_none}
use Rattle.cown_board.proofs.LogLaws.{some_at}
use Rattle.cown_board.proofs.PositionLaws.{positions-agree, place_is, none_below_at, none_below_from}
use Rattle.cown_board.proofs.QueueChanges.{fronts_from_clear, clear_from_fronts, queues_taken}
use Rattle.cown_board.proofs.StateChanges.{state_waits, waiting_is_open}
use Rattle.cown_board.specs.inner.DuePositions.{is_due}
use Rattle.cown_board.specs.inner.Fronts.{behind_at, behind_of}
use Rattle.cown_board.specs.inner.BoardInvariant.{IsLinked, AreCowns, AreLinks}
use Rattle.cown_board.specs.Readiness.{touched_by, conflict_at, is_clear_at, is_ready_at, ready_positions}
use Rattle.cown_board.specs.State.{unfinished_at}
use Rattle.cown_board.specs.inner.StateTests.{waiting_at}
use Rattle.cown_board.specs.declared.links.Links.{Links}
use Rattle.cown_board.specs.declared.state.State.{State}
use Rattle.cown_board.specs.declared.state.State.TheVariants.{Waiting, Out}

module _ {B : Type 0} (touches : B → List ℕ) (log : List B) (states : List State) where
  -- clear places, as a fact
  pub clear_fact : (k : ℕ) → is_clear_at touches log states k ≡ true → (j : ℕ) → j < k → conflict_at touches log j k ≡ true → unfinished_at states j ≡ false
  clear_fact k clear j lt conflict = false_from_ne_true (unfinished_at states j) (λ still_open.
      both_ways (unfinished_at states j && conflict_at touches log j k)
      (none_below_at (λ i. unfinished_at states i && conflict_at touches log i k) k j clear lt)
      (and_from (unfinished_at states j) (conflict_at touches log j k) still_open conflict))

  pub clear_test : (k : ℕ) → ((j : ℕ) → j < k → conflict_at touches log j k ≡ true → unfinished_at states j ≡ false) → is_clear_at touches log states k ≡ true
  clear_test k clear = none_below_from (λ j. unfinished_at states j && conflict_at touches log j k) k (λ j lt.
      false_from_ne_true (unfinished_at states j && conflict_at touches log j k) (λ both.
      let parts = and_parts (unfinished_at states j) (conflict_at touches log j k) both in
      true≢false (sym parts.0 ∙ clear j lt parts.1)))

  -- a ready place is in the log, and waits
  pub ready_parts : (index k : ℕ) → slice_get (ready_positions touches log states) index ≡ Some k
      → (k < length log) × (slice_get states k ≡ Some Waiting) × (is_clear_at touches log states k ≡ true)
  unfolding ready_positions
  ready_parts index k ready =
      let found = place_is (is_ready_at touches log states) (length log) index k ready in
      let parts = and_parts (waiting_at states k) (is_clear_at touches log states k) found.1 in
      (found.0, state_waits states k parts.0, parts.1)

module _ {B : Type 0} (touches : B → List ℕ) (effect : B → List ℤ → Reply × List ℤ) (log : List B) (states : List State) (cowns : ℕ)
    (links : Links) (all : IsLinked touches effect log states cowns links) (in_range : AreCowns touches effect cowns log) where
  -- a waiting place is behind at no cown exactly if it is clear
  none_is_clear : (k : ℕ) (b : B) → slice_get log k ≡ Some b → waiting_at states k ≡ true
      → (behind_of touches log links.queues.lists k == 0) ≡ is_clear_at touches log states k
  none_is_clear k b here waits =
      let lists = links.queues.lists in
      let at : touched_by touches (slice_get log k) ≡ touches b = ap (touched_by touches) here in
      let declared = λ (cown : ℕ) (among : is_among cown (touches b) ≡ true). in_range k cown (ap (λ o. is_among cown (touched_by touches o)) here ∙ among) in
      same_tests (behind_of touches log lists k == 0) (is_clear_at touches log states k)
      (λ none. clear_test touches log states k (clear_from_fronts touches effect log states lists cowns all.queues k b here
      (fronts_from_none k lists (touches b) (sym (ap (behind_at k lists) at) ∙ eqb-true (behind_of touches log lists k) 0 none)) declared))
      (λ clear. eq-eqb (behind_of touches log lists k) 0 (ap (behind_at k lists) at
      ∙ none_behind k lists (touches b)
      (fronts_from_clear touches effect log states lists cowns all.queues k b here (waiting_is_open states k waits)
      (clear_fact touches log states k clear) (touches b) (λ cown among. (among, declared cown among)))))

  -- so the places that are due are the ready ones
  pub due_are_ready : links.ready.ready.items ≡ ready_positions touches log states
  unfolding ready_positions
  due_are_ready =
      all.counts.listed
      ∙ positions-agree (is_due (waiting_at states) links.ready.behind.items) (is_ready_at touches log states) (length log)
      (λ j lt. elim (cases_Bool (waiting_at states j)) [
        | inl waits ↦
            let found = some_at log j lt in
            ap (λ x. waiting_at states j && x)
            (ap (λ n. n == 0) (all.counts.counted j waits) ∙ none_is_clear j found.0 found.1 waits)
        | inr not_waiting ↦ and_left (waiting_at states j) (get_or links.ready.behind.items j 0 == 0) not_waiting
            ∙ sym (and_left (waiting_at states j) (is_clear_at touches log states j) not_waiting)
      ])

  -- the list without one place, which is out
  all_taken : (index k : ℕ) (new : Links) → slice_get links.ready.ready.items index ≡ Some k → new.queues.lists ≡ links.queues.lists
      → new.ready.behind.items ≡ links.ready.behind.items → new.ready.ready.items ≡ remove links.ready.ready.items index
      → IsLinked touches effect log (slice_set states k Out) cowns new
  all_taken index k new at lists behind ready =
      let parts = ready_parts touches log states index k (sym (ap (λ xs. slice_get xs index) due_are_ready) ∙ at) in
      record {
        queues = rw lists (queues_taken touches effect log states links.queues.lists cowns k parts.1 all.queues);
        counts = rw (lists, behind, ready) (counts_taken touches effect log states links.queues.lists links.ready.behind.items links.ready.ready.items
            index k parts.1 at all.counts);
      }

  -- the place taken out of the list is ready, and the others stay linked
  pub taken : (o : Option ℕ) (index unfinished : ℕ) (new : Links) → new.linked ≡ true → new.queues.lists ≡ links.queues.lists
      → new.ready.behind.items ≡ links.ready.behind.items → (0 < unfinished → unfinished + 3 ≤ deque_capacity new.ready.ready)
      → MatchOption o ((length links.ready.ready.items ≤ index) × (new.ready.ready.items ≡ links.ready.ready.items))
      (λ position. (slice_get links.ready.ready.items index ≡ Some position) × (new.ready.ready.items ≡ remove links.ready.ready.items index))
      → MatchOption o ((length (ready_positions touches log states) ≤ index) × AreLinks touches effect log states unfinished cowns new)
      (λ position. (slice_get (ready_positions touches log states) index ≡ Some position)
      × AreLinks touches effect log (slice_set states position Out) unfinished cowns new)
  taken None index unfinished new linked lists behind room found = (
    subst (λ xs. length xs ≤ index) due_are_ready found.0,
    record {
      linked = λ _. record { queues = rw lists all.queues; counts = rw (lists, behind, found.1) all.counts };
      unlinked = λ not. absurd (true≢false (sym linked ∙ not));
      room = room;
    },
  )
  taken (Some position) index unfinished new linked lists behind room found = (
    sym (ap (λ xs. slice_get xs index) due_are_ready) ∙ found.0,
    record {
      linked = λ _. all_taken index position new found.0 lists behind found.1;
      unlinked = λ not. absurd (true≢false (sym linked ∙ not));
      room = room;
    },
  )
