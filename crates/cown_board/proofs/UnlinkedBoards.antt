-- If nothing is linked, the first unfinished behaviour is the first ready one, unless it is out.
use Rattle.std.proofs.Common.{◌≡◌, inl, inr, ℕ, suc, ◌+◌, ◌-◌, ◌*◌, ◌<◌, ◌≤◌, ℤ, true, false, ◌&&◌, Some, List, [], ◌∷◌, ◌++◌, length, sym, ap, ◌∙◌, subst, arith, vec_capacity}
use Rattle.std.specs.Prelude.{slice_get, slice_set}
use Rattle.std.specs.VecDeque.{deque_capacity}
use Rattle.std.proofs.lemmas.Bool.{cases_Bool, cases_eq, cases_lt, cases_order, and_from, and_left, true≢false}
use Rattle.sb_calls.specs.declared.reply.Reply.{Reply}
use Rattle.cown_board.proofs.PositionLaws.{length-places_none, place_first, none_below_from}
use Rattle.cown_board.proofs.StateChanges.{state_here, state-append, state-last, state-set_other, state-set_same, state_waits, waiting_is_open}
use Rattle.cown_board.proofs.TakeInvariant.{open-taken}
use Rattle.cown_board.specs.inner.BoardInvariant.{AreLinks}
use Rattle.cown_board.specs.inner.Links.{IsUnlinked, LeavesLinks}
use Rattle.cown_board.specs.Readiness.{conflict_at, is_clear_at, is_ready_at, ready_positions}
use Rattle.cown_board.specs.State.{is_unfinished, is_waiting, unfinished_at}
use Rattle.cown_board.specs.inner.StateTests.{waiting_at}
use Rattle.cown_board.specs.declared.links.Links.{Links}
use Rattle.cown_board.specs.declared.state.State.{State}
use Rattle.cown_board.specs.declared.state.State.TheVariants.{Waiting, Out, Finished}

-- a finished behaviour doesn't wait
pub closed_waits_not : (states : List State) (k : ℕ) → unfinished_at states k ≡ false → waiting_at states k ≡ false
closed_waits_not states k closed = elim (cases_Bool (waiting_at states k)) [
  | inl waits ↦ absurd (true≢false (sym (waiting_is_open states k waits) ∙ closed))
  | inr not_waiting ↦ not_waiting
]

module _ {B : Type 0} (touches : B → List ℕ) (log : List B) (states : List State) where
  -- the first unfinished one is the first ready one, if it waits
  pub first_ready : (first : ℕ) → first < length log → ((k : ℕ) → k < first → unfinished_at states k ≡ false) → waiting_at states first ≡ true
      → slice_get (ready_positions touches log states) 0 ≡ Some first
  unfolding ready_positions
  first_ready first lt before waits =
      let clear : is_clear_at touches log states first ≡ true =
      none_below_from (λ j. unfinished_at states j && conflict_at touches log j first) first (λ j below.
      and_left (unfinished_at states j) (conflict_at touches log j first) (before j below)) in
      place_first (is_ready_at touches log states) (length log) first lt (and_from (waiting_at states first) (is_clear_at touches log states first) waits clear)
      (none_below_from (is_ready_at touches log states) first (λ j below.
      and_left (waiting_at states j) (is_clear_at touches log states j) (closed_waits_not states j (before j below))))

  -- and if all are finished, none is ready
  pub none_ready : (index : ℕ) → ((k : ℕ) → k < length log → unfinished_at states k ≡ false) → length (ready_positions touches log states) ≤ index
  unfolding ready_positions
  none_ready index closed =
      let none = length-places_none (is_ready_at touches log states) (length log) (λ j lt.
      and_left (waiting_at states j) (is_clear_at touches log states j) (closed_waits_not states j (closed j lt))) in
      omega (arith, none)

-- ---- after each change

-- the first one is handed out
pub none_taken : (numbers : ℕ) (states : List State) (first cowns : ℕ) (links : Links) → IsUnlinked numbers states first cowns links
    → waiting_at states first ≡ true → IsUnlinked numbers (slice_set states first Out) first cowns links
none_taken numbers states first cowns links none waits =
    let here = state_waits states first waits in
    record {
      before = λ k lt. open-taken states first k here ∙ none.before k lt;
      here = λ lt. open-taken states first first here ∙ none.here lt;
      after = λ k lt within. state-set_other is_waiting states first k Out (λ e. omega (arith, e, lt)) ∙ none.after k lt within;
      lists = none.lists;
      behind = none.behind;
      ready = none.ready;
      places = none.places;
      counts = none.counts;
    }

-- one more is submitted
pub none_submitted : (numbers : ℕ) (states : List State) (first cowns : ℕ) (old new : Links) → numbers ≡ length states → first ≤ numbers
    → IsUnlinked numbers states first cowns old → LeavesLinks old new → (numbers + 1 - first) * 3 ≤ new.queues.places
    → numbers + 1 ≤ vec_capacity new.ready.behind → IsUnlinked (numbers + 1) (states ++ Waiting ∷ []) first cowns new
none_submitted numbers states first cowns old new long le none stay places counts = record {
  before = λ k lt. state-append is_unfinished states Waiting k (omega (arith, lt, le, long)) ∙ none.before k lt;
  here = λ lt. elim (cases_lt first numbers) [
    | inl within ↦ state-append is_unfinished states Waiting first (omega (arith, within, long)) ∙ none.here within
    | inr past ↦ state-last is_unfinished states Waiting first (omega (arith, past, le, long))
  ];
  after = λ k lt within. elim (cases_lt k numbers) [
    | inl old ↦ state-append is_waiting states Waiting k (omega (arith, old, long)) ∙ none.after k lt old
    | inr past ↦ state-last is_waiting states Waiting k (omega (arith, past, within, long))
  ];
  lists = stay.lists ∙ none.lists;
  behind = stay.behind ∙ none.behind;
  ready = stay.ready ∙ none.ready;
  places = places;
  counts = counts;
}

-- the behaviour that is out is the first one
out_is_first : (numbers : ℕ) (states : List State) (first cowns k : ℕ) (links : Links) → IsUnlinked numbers states first cowns links → k < numbers
    → slice_get states k ≡ Some Out → k ≡ first
out_is_first numbers states first cowns k links none lt out = elim (cases_order k first) [
  | inl same ↦ same
  | inr either ↦ elim either [
    | inl before ↦ absurd (true≢false (sym (state_here is_unfinished states k Out out) ∙ none.before k before))
    | inr after ↦ absurd (true≢false (sym (none.after k after lt) ∙ state_here is_waiting states k Out out))
  ]
]

-- the first one is finished
pub none_finished : (numbers : ℕ) (states : List State) (first cowns k : ℕ) (links : Links) (reply : Reply) → numbers ≡ length states
    → IsUnlinked numbers states first cowns links → k < numbers → slice_get states k ≡ Some Out
    → IsUnlinked numbers (slice_set states k (Finished reply)) (suc first) cowns links
none_finished numbers states first cowns k links reply long none lt out =
    let same = out_is_first numbers states first cowns k links none lt out in
    record {
      before = λ j below. elim (cases_eq j k) [
        | inl here ↦ ap (unfinished_at (slice_set states k (Finished reply))) here
            ∙ state-set_same is_unfinished states k (Finished reply) (omega (arith, lt, long))
        | inr differs ↦ state-set_other is_unfinished states k j (Finished reply) differs ∙ none.before j (omega (arith, below, differs, same))
      ];
      here = λ within. state-set_other is_unfinished states k (suc first) (Finished reply) (λ e. omega (arith, e, same))
          ∙ waiting_is_open states (suc first) (none.after (suc first) (omega arith) within);
      after = λ j below within. state-set_other is_waiting states k j (Finished reply) (λ e. omega (arith, e, same, below))
          ∙ none.after j (omega (arith, below)) within;
      lists = none.lists;
      behind = none.behind;
      ready = none.ready;
      places = (let p = none.places in omega (arith, p));
      counts = none.counts;
    }

module _ {B : Type 0} (touches : B → List ℕ) (effect : B → List ℤ → Reply × List ℤ) where
  -- links that mean the same, if at least as much room is known
  pub links_stay : (log : List B) (states : List State) (unfinished cowns : ℕ) (old new : Links) → AreLinks touches effect log states unfinished cowns old
      → new.linked ≡ old.linked → LeavesLinks old new → old.queues.places ≤ new.queues.places
      → vec_capacity old.ready.behind ≤ vec_capacity new.ready.behind → deque_capacity old.ready.ready ≤ deque_capacity new.ready.ready
      → AreLinks touches effect log states unfinished cowns new
  links_stay log states unfinished cowns old new links same stay places counts room = record {
    linked = λ is.
        let all = links.linked (sym same ∙ is) in
        record { queues = rw stay.lists all.queues; counts = rw (stay.lists, stay.behind, stay.ready) all.counts };
    unlinked = λ is.
        let known = links.unlinked (sym same ∙ is) in
        let none = known.1 in (
          known.0,
          record {
            before = none.before;
            here = none.here;
            after = none.after;
            lists = stay.lists ∙ none.lists;
            behind = stay.behind ∙ none.behind;
            ready = stay.ready ∙ none.ready;
            places = (let p = none.places in omega (arith, p, places));
            counts = (let c = none.counts in omega (arith, c, counts));
          },
        );
    room = λ some. let r = links.room some in omega (arith, r, room);
  }

  -- the first one is handed out while nothing is linked
  pub links_first : (log : List B) (states : List State) (unfinished cowns first : ℕ) (links : Links)
      → AreLinks touches effect log states unfinished cowns links → links.linked ≡ false → first ≡ length log - unfinished
      → waiting_at states first ≡ true → AreLinks touches effect log (slice_set states first Out) unfinished cowns links
  links_first log states unfinished cowns first links are is at waits =
      let known = are.unlinked is in
      record {
        linked = λ yes. absurd (true≢false (sym yes ∙ is));
        unlinked = λ no. (
          known.0,
          subst (λ n. IsUnlinked (length log) (slice_set states n Out) (length log - unfinished) cowns links) (sym at)
              (none_taken (length log) states (length log - unfinished) cowns links known.1 (subst (λ n. waiting_at states n ≡ true) at waits)),
        );
        room = are.room;
      }
