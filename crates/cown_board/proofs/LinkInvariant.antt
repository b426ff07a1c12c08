-- All unfinished behaviours are linked, one after the other, as if all of them waited.
use Rattle.std.proofs.Common.{◌≡◌, ◌≢◌, inl, inr, ℕ, zero, suc, ◌+◌, ◌-◌, ◌<◌, ◌≤◌, ℤ, true, false, ◌&&◌, Some, List, [], ◌∷◌, ◌++◌, length, length-append, get_or, replicate, take, refl, sym, ap, ◌∙◌, subst, arith}
use Rattle.std.specs.Prelude.{◌==◌, if◌then◌else◌, count_by, slice_get, slice_set, remove}
use Rattle.std.proofs.lemmas.Bool.{cases_eq, cases_lt, and_left, true≢false}
use Rattle.std.proofs.lemmas.List.{get_or-replicate, length-replicate, length-take-le, append_assoc, replicate_more, take_all}
use Rattle.std.proofs.lemmas.Option.{slice_get-get_or, slice_get_within}
use Rattle.sb_calls.specs.Cowns.{AreBelow}
use Rattle.sb_calls.specs.SerialRun.{is_among}
use Rattle.sb_calls.specs.declared.reply.Reply.{Reply}
use Rattle.cown_queue.specs.Queues.{Appends, queued_in, list_of}
use Rattle.cown_board.proofs.BehindCounts.{counts_submitted, counts_taken}
use Rattle.cown_board.proofs.CownLists.{below_from}
use Rattle.cown_board.proofs.CutInvariant.{slice_get-take}
use Rattle.cown_board.proofs.LogLaws.{take_one_more}
use Rattle.cown_board.proofs.ReadyInputs.{touched_within}
use Rattle.cown_board.proofs.ReadyListLaws.{due_are_ready}
use Rattle.cown_board.proofs.PositionLaws.{positions-agree, positions-none, none_below_from, slice_get-left, slice_get-right}
use Rattle.cown_board.proofs.QueueChanges.{queues_submitted}
use Rattle.cown_board.proofs.StateChanges.{state_here, state_past, state-set_other, state-set_same, waiting_is_open}
use Rattle.cown_board.proofs.UnlinkedBoards.{closed_waits_not, first_ready}
use Rattle.cown_board.specs.inner.DuePositions.{is_due}
use Rattle.cown_board.specs.inner.Fronts.{is_occupied}
use Rattle.cown_board.specs.inner.BoardInvariant.{IsLinked, AreCowns, AreCounts, AreQueues, is_queued, touches_at}
use Rattle.cown_board.specs.Readiness.{touched_by}
use Rattle.cown_board.specs.State.{is_unfinished, is_waiting, unfinished_at, state_is}
use Rattle.cown_board.specs.inner.StateTests.{waiting_at}
use Rattle.cown_board.specs.declared.links.Links.{Links}
use Rattle.cown_board.specs.declared.state.State.{State}
use Rattle.cown_board.specs.declared.state.State.TheVariants.{Waiting, Out}

-- the states before a place, followed by this many waiting ones
abbrev pub as_waiting : List State → ℕ → ℕ → List State
as_waiting states first more = take first states ++ replicate more Waiting

length-as_waiting : (states : List State) (first more : ℕ) → first ≤ length states → length (as_waiting states first more) ≡ first + more
length-as_waiting states first more le =
    let a = length-append (take first states) (replicate more Waiting) in
    let b = length-take-le first states le in
    let c = length-replicate more Waiting in
    omega (arith, a, b, c)

as_waiting-more : (states : List State) (first more next : ℕ) → next ≡ more + 1 → as_waiting states first more ++ Waiting ∷ [] ≡ as_waiting states first next
as_waiting-more states first more next e =
    append_assoc (take first states) (replicate more Waiting) (Waiting ∷ [])
    ∙ ap (λ t. take first states ++ t) (replicate_more more Waiting ∙ ap (λ n. replicate n Waiting) (sym e))

-- those before the place are unchanged
as_before : (states : List State) (first more k : ℕ) → first ≤ length states → k < first → slice_get (as_waiting states first more) k ≡ slice_get states k
as_before states first more k le lt =
    slice_get-left (take first states) (replicate more Waiting) k (let b = length-take-le first states le in omega (arith, lt, b))
    ∙ slice_get-take states first k lt

-- the others wait
replicated : (more j : ℕ) → j < more → slice_get (replicate more Waiting) j ≡ Some Waiting
replicated more j lt =
    slice_get-get_or (replicate more Waiting) j Waiting (let c = length-replicate more Waiting in omega (arith, lt, c))
    ∙ ap (λ s. Some s) (get_or-replicate more j Waiting Waiting lt)

as_after : (states : List State) (first more k : ℕ) → first ≤ length states → first ≤ k → k < first + more
    → slice_get (as_waiting states first more) k ≡ Some Waiting
as_after states first more k le ge lt =
    let b = length-take-le first states le in
    slice_get-right (take first states) (replicate more Waiting) k (k - first) (omega (arith, b, ge)) ∙ replicated more (k - first) (omega (arith, ge, lt))

-- if all before a place are finished, none of the states before it is open
closed_up_to : (states : List State) (first k : ℕ) → first ≤ length states → ((j : ℕ) → j < first → unfinished_at states j ≡ false)
    → unfinished_at (as_waiting states first 0) k ≡ false
closed_up_to states first k le before = elim (cases_lt k first) [
  | inl lt ↦ ap (state_is is_unfinished) (as_before states first 0 k le lt) ∙ before k lt
  | inr ge ↦ state_past is_unfinished (as_waiting states first 0) k (let long = length-as_waiting states first 0 le in omega (arith, long, ge))
]

module _ {B : Type 0} (touches : B → List ℕ) (effect : B → List ℤ → Reply × List ℤ) where
  -- states that agree at each place have the same queues and counts
  queues_alike : (log : List B) (old new : List State) (lists : List (List ℕ)) (cowns : ℕ) → ((k : ℕ) → unfinished_at new k ≡ unfinished_at old k)
      → AreQueues touches effect log old lists cowns → AreQueues touches effect log new lists cowns
  queues_alike log old new lists cowns same queued = record {
    one_each = queued.one_each;
    each = λ cown lt. queued.each cown lt
        ∙ positions-agree (is_queued touches effect log old cown) (is_queued touches effect log new cown) (length log)
        (λ j _. ap (λ x. x && touches_at touches effect log cown j) (sym (same j)));
  }

  counts_alike : (log : List B) (old new : List State) (lists : List (List ℕ)) (behind ready : List ℕ) → ((k : ℕ) → waiting_at new k ≡ waiting_at old k)
      → AreCounts touches effect log old lists behind ready → AreCounts touches effect log new lists behind ready
  counts_alike log old new lists behind ready same counts = record {
    same_length = counts.same_length;
    counted = λ k waits. counts.counted k (sym (same k) ∙ waits);
    listed = counts.listed
        ∙ positions-agree (is_due (waiting_at old) behind) (is_due (waiting_at new) behind) (length log)
        (λ j _. ap (λ x. x && (get_or behind j 0 == 0)) (sym (same j)));
  }

  module _ (log : List B) (states : List State) (first cowns : ℕ) (in_range : AreCowns touches effect cowns log) (same_length : length log ≡ length states)
      (within : first < length log) (before : (k : ℕ) → k < first → unfinished_at states k ≡ false) where
    -- ---- none of them yet

    abbrev start_states : List State
    start_states = as_waiting states first 0

    start_closed : (k : ℕ) → unfinished_at start_states k ≡ false
    start_closed k = closed_up_to states first k (omega (arith, within, same_length)) before

    pub queues_at_first : (more : ℕ) (lists : List (List ℕ)) → more ≡ 0 → lists ≡ replicate cowns []
        → AreQueues touches effect (take first log) (as_waiting states first more) lists cowns
    queues_at_first more lists start none = rw start (record {
      one_each = ap length none ∙ length-replicate cowns [];
      each = λ cown lt.
          let f = is_queued touches effect (take first log) start_states cown in
          ap (λ l. list_of l cown) none ∙ get_or-replicate cowns cown [] [] lt
          ∙ sym (positions-none f (length (take first log)) (none_below_from f (length (take first log)) (λ j _.
          and_left (unfinished_at start_states j) (touches_at touches effect (take first log) cown j) (start_closed j))));
    })

    pub counts_at_first : (more : ℕ) (lists : List (List ℕ)) (behind ready : List ℕ) → more ≡ 0 → length behind ≡ first → ready ≡ []
        → AreCounts touches effect (take first log) (as_waiting states first more) lists behind ready
    counts_at_first more lists behind ready start long none = rw start (record {
      same_length = (let l = length-take-le first log (omega (arith, within)) in omega (arith, l, long));
      counted = λ k waits. absurd (true≢false (sym (waiting_is_open start_states k waits) ∙ start_closed k));
      listed =
          let f = is_due (waiting_at start_states) behind in
          none ∙ sym (positions-none f (length (take first log)) (none_below_from f (length (take first log)) (λ j _.
          and_left (waiting_at start_states j) (get_or behind j 0 == 0) (closed_waits_not start_states j (start_closed j)))));
    })

    -- ---- one more

    module _ (position : ℕ) (b : B) (old new : List (List ℕ)) (from : first ≤ position) (lt : position < length log) (here : slice_get log position ≡ Some b)
        (queued : AreQueues touches effect (take position log) (as_waiting states first (position - first)) old cowns)
        (appended : Appends position (touches b) old new) where
      abbrev so_far : List State
      so_far = as_waiting states first (position - first)

      long : length (take position log) ≡ position
      long = length-take-le position log (omega (arith, lt))

      as_long : length (take position log) ≡ length so_far
      as_long = let l = length-as_waiting states first (position - first) (omega (arith, within, same_length)) in omega (arith, l, long, from)

      next_log : take position log ++ b ∷ [] ≡ take (position + 1) log
      next_log = let more : position + 1 ≡ suc position = omega arith in sym (ap (λ n. take n log) more ∙ take_one_more log position b here)

      next_states : so_far ++ Waiting ∷ [] ≡ as_waiting states first (position + 1 - first)
      next_states = as_waiting-more states first (position - first) (position + 1 - first) (omega (arith, from))

      put : Appends (length (take position log)) (touches b) old new
      put = subst (λ n. Appends n (touches b) old new) (sym long) appended

      pub queues_next : AreQueues touches effect (take (position + 1) log) (as_waiting states first (position + 1 - first)) new cowns
      queues_next =
          subst (λ l. AreQueues touches effect l (as_waiting states first (position + 1 - first)) new cowns) next_log
          (subst (λ s. AreQueues touches effect (take position log ++ b ∷ []) s new cowns) next_states
          (queues_submitted touches effect (take position log) so_far b old new cowns as_long queued put))

      taken_touches : (k cown : ℕ) → touches_at touches effect (take position log) cown k ≡ true → cown < cowns
      taken_touches k cown among =
          let below = touched_within touches effect (take position log) cown k among in
          in_range k cown (sym (ap (λ o. is_among cown (touched_by touches o)) (slice_get-take log position k (omega (arith, below, long)))) ∙ among)

      fits : (cown : ℕ) → is_among cown (touches b) ≡ true → cown < cowns
      fits cown among = in_range position cown (ap (λ o. is_among cown (touched_by touches o)) here ∙ among)

      pub counts_next : (behind ready behind' ready' : List ℕ) (m : ℕ) → m ≡ count_by (is_occupied old) (touches b) → behind' ≡ behind ++ m ∷ []
          → ready' ≡ (if m == 0 then ready ++ position ∷ [] else ready)
          → AreCounts touches effect (take position log) (as_waiting states first (position - first)) old behind ready
          → AreCounts touches effect (take (position + 1) log) (as_waiting states first (position + 1 - first)) new behind' ready'
      counts_next behind ready behind' ready' m held is_behind is_ready counts =
          subst (λ l. AreCounts touches effect l (as_waiting states first (position + 1 - first)) new behind' ready') next_log
          (subst (λ s. AreCounts touches effect (take position log ++ b ∷ []) s new behind' ready') next_states
          (rw (is_behind, is_ready ∙ ap (λ n. if m == 0 then ready ++ n ∷ [] else ready) (sym long))
          (counts_submitted touches effect (take position log) so_far b old new cowns as_long queued put taken_touches fits behind ready m held counts)))

    -- ---- all of them

    module _ (last : ℕ) (links new : Links) (all : length log ≤ last) (ends : last ≤ length log) (open_here : unfinished_at states first ≡ true)
        (after : (k : ℕ) → first < k → k < length log → waiting_at states k ≡ true)
        (queued : AreQueues touches effect (take last log) (as_waiting states first (last - first)) links.queues.lists cowns)
        (counts : AreCounts touches effect (take last log) (as_waiting states first (last - first)) links.queues.lists
        links.ready.behind.items links.ready.ready.items) where
      abbrev waiting_all : List State
      waiting_all = as_waiting states first (last - first)

      le : first ≤ length states
      le = omega (arith, within, same_length)

      whole : take last log ≡ log
      whole = take_all last log all

      first_of_all : slice_get waiting_all first ≡ Some Waiting
      first_of_all = as_after states first (last - first) first le (omega arith) (omega (arith, within, all))

      open_alike : (k : ℕ) → unfinished_at states k ≡ unfinished_at waiting_all k
      open_alike k = elim (cases_lt k first) [
        | inl lt ↦ sym (ap (state_is is_unfinished) (as_before states first (last - first) k le lt))
        | inr ge ↦ elim (cases_lt k (length log)) [
          | inl lt ↦
              (elim (cases_eq k first) [
                | inl same ↦ ap (unfinished_at states) same ∙ open_here
                | inr differs ↦ waiting_is_open states k (after k (omega (arith, ge, differs)) lt)
              ])
              ∙ sym (ap (state_is is_unfinished) (as_after states first (last - first) k le ge (omega (arith, lt, all, ge, within))))
          | inr past ↦
              state_past is_unfinished states k (omega (arith, past, same_length))
              ∙ sym (state_past is_unfinished waiting_all k (let l = length-as_waiting states first (last - first) le in omega (arith, l, past, ends, within)))
        ]
      ]

      waiting_alike : (k : ℕ) → k ≢ first → waiting_at states k ≡ waiting_at waiting_all k
      waiting_alike k differs = elim (cases_lt k first) [
        | inl lt ↦ sym (ap (state_is is_waiting) (as_before states first (last - first) k le lt))
        | inr ge ↦ elim (cases_lt k (length log)) [
          | inl lt ↦
              after k (omega (arith, ge, differs)) lt
              ∙ sym (ap (state_is is_waiting) (as_after states first (last - first) k le ge (omega (arith, lt, all, ge, within))))
          | inr past ↦
              state_past is_waiting states k (omega (arith, past, same_length))
              ∙ sym (state_past is_waiting waiting_all k (let l = length-as_waiting states first (last - first) le in omega (arith, l, past, ends, within)))
        ]
      ]

      all_waiting : IsLinked touches effect log waiting_all cowns links
      all_waiting = record {
        queues = subst (λ l. AreQueues touches effect l waiting_all links.queues.lists cowns) whole queued;
        counts = subst (λ l. AreCounts touches effect l waiting_all links.queues.lists links.ready.behind.items links.ready.ready.items) whole counts;
      }

      pub queues_last : AreQueues touches effect log states links.queues.lists cowns
      queues_last = queues_alike log waiting_all states links.queues.lists cowns open_alike all_waiting.queues

      -- the first one waits too
      pub all_wait : waiting_at states first ≡ true → IsLinked touches effect log states cowns links
      all_wait waits = record {
        queues = queues_last;
        counts = counts_alike log waiting_all states links.queues.lists links.ready.behind.items links.ready.ready.items
            (λ k. elim (cases_eq k first) [
              | inl same ↦ ap (waiting_at states) same ∙ waits
                  ∙ sym (ap (waiting_at waiting_all) same ∙ state_here is_waiting waiting_all first Waiting first_of_all)
              | inr differs ↦ waiting_alike k differs
            ]) all_waiting.counts;
      }

      pub first_listed : slice_get links.ready.ready.items 0 ≡ Some first
      first_listed =
          ap (λ r. slice_get r 0) (due_are_ready touches effect log waiting_all cowns links all_waiting in_range)
          ∙ first_ready touches log waiting_all first within
          (λ k lt. sym (open_alike k) ∙ before k lt) (state_here is_waiting waiting_all first Waiting first_of_all)

      -- it is out, and leaves the list
      pub all_but_first : waiting_at states first ≡ false → new.queues.lists ≡ links.queues.lists → new.ready.behind.items ≡ links.ready.behind.items
          → new.ready.ready.items ≡ remove links.ready.ready.items 0 → IsLinked touches effect log states cowns new
      all_but_first out lists behind ready =
          let taken = counts_taken touches effect log waiting_all links.queues.lists links.ready.behind.items links.ready.ready.items 0 first
          first_of_all first_listed all_waiting.counts in
          let some : first < length waiting_all = slice_get_within waiting_all first Waiting first_of_all in
          record {
            queues = rw lists queues_last;
            counts = rw (lists, behind, ready) (counts_alike log (slice_set waiting_all first Out) states links.queues.lists links.ready.behind.items
                (remove links.ready.ready.items 0) (λ k. elim (cases_eq k first) [
                  | inl same ↦ ap (waiting_at states) same ∙ out
                      ∙ sym (ap (waiting_at (slice_set waiting_all first Out)) same ∙ state-set_same is_waiting waiting_all first Out some)
                  | inr differs ↦ waiting_alike k differs ∙ sym (state-set_other is_waiting waiting_all first k Out differs)
                ]) taken);
          }

-- empty lists hold nothing
pub held_none : (lists : List (List ℕ)) (cowns : ℕ) → lists ≡ replicate cowns [] → queued_in lists ≡ 0
held_none lists cowns none = ap queued_in none ∙ held_replicate cowns
  where
    held_replicate : (n : ℕ) → queued_in (replicate n []) ≡ 0
    held_replicate zero = refl
    held_replicate (suc n) = held_replicate n

module _ {B : Type 0} (touches : B → List ℕ) (effect : B → List ℤ → Reply × List ℤ) where
  -- the cowns of each behaviour exist
  pub declared_below : (log : List B) (cowns : ℕ) → AreCowns touches effect cowns log → (k : ℕ) (b : B) → slice_get log k ≡ Some b → AreBelow cowns (touches b)
  declared_below log cowns in_range k b here =
      below_from cowns (touches b) (λ cown among. in_range k cown (ap (λ o. is_among cown (touched_by touches o)) here ∙ among))
