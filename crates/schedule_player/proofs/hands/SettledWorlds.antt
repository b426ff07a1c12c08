-- A world in which a replica is settled.
use Rattle.std.proofs.Common.{◌≡◌, ◌⊎◌, inl, inr, get_or, true, false, ℕ, zero, suc, ◌+◌, ◌*◌, ◌<◌, ◌≤◌, Option, Some, None, List, [], ◌∷◌, ◌++◌, length, length-append, replicate, refl, sym, ap, subst, ◌∙◌, arith}
use Rattle.std.specs.Prelude.{slice_get, slice_set, count_by}
use Rattle.std.proofs.lemmas.Bool.{cases_eq, eq-eqb, ne_eqb, eqb-true}
use Rattle.std.proofs.lemmas.List.{length-set}
use Rattle.std.proofs.lemmas.Option.{slice_get_within, slice_get_cases}
use Rattle.cown_board.proofs.StateChanges.{slice_get-set_same}
use Rattle.schedule_player.specs.Observers.{idle_if, idle_at}
use Rattle.schedule_player.specs.EventLists.{PlaysEvents}
use Rattle.schedule_player.specs.ReplicaMoves.{NodeOf, undone_in, take_move, finish_move}
use Rattle.schedule_player.specs.Settling.{finish_events, work_events, after_events, workers_if, workers_at, undone_if, undone_at, emptying_events, remaining_undone, settle_events, IsBusyBefore, settled_node, settled_world_if, settled_world}
use Rattle.schedule_player.specs.inner.SettlingSteps.{IsTrueAt, IsAbleToSettle, IsAtRest}
use Rattle.schedule_player.specs.Stage.{IsDone, is_undone}
use Rattle.schedule_player.specs.World.{WorldOf, bank_of, world_move, move_if}
use Rattle.schedule_text.specs.declared.event.Event.{Event}
use Rattle.schedule_text.specs.declared.event.Event.TheVariants as event
use Rattle.schedule_text.specs.declared.event.NodeEvent.TheVariants as node_event
use Rattle.schedule_text.specs.declared.note.Note.{Note}
use Rattle.schedule_player.proofs.hands.WorkSteps.{set_twice, works, does_so_many, all_worked}
use Rattle.schedule_player.proofs.hands.EmptyHands.{finishes, all_finished}
use Rattle.schedule_player.proofs.Lists.{set_here}
use Rattle.cown_board.proofs.LogLaws.{no_some as none_some}
use Rattle.cown_board.proofs.LogLaws.{injective as some_is}
use Rattle.schedule_player.proofs.events.EventLists.{plays_on}

-- ---- events without an ask

after_append : (world : WorldOf) (xs ys : List Event) → after_events world (xs ++ ys) ≡ after_events (after_events world xs) ys
after_append world [] ys = refl
after_append world (x ∷ xs) ys = after_append (world_move world x).0 xs ys

-- the machine plays these events
abbrev IsPlayable : WorldOf → List Event → Type 0
IsPlayable world events = (notes : List Note) × PlaysEvents world events notes (after_events world events)

playable_on : (world : WorldOf) (xs ys : List Event) → IsPlayable world xs → IsPlayable (after_events world xs) ys → IsPlayable world (xs ++ ys)
playable_on world xs ys first more = (
  first.0 ++ more.0,
  subst (λ new. PlaysEvents world (xs ++ ys) (first.0 ++ more.0) new) (sym (after_append world xs ys))
      (plays_on world xs first.0 (after_events world xs) ys more.0 (after_events (after_events world xs) ys) first.1 more.1),
)

plays_finish : (world : WorldOf) (r worker : ℕ) → IsPlayable world (event.At r (node_event.Finish worker) ∷ [])
plays_finish world r worker =
    let made = world_move world (event.At r (node_event.Finish worker)) in (made.1 ∷ [], (made.0, refl, refl))

plays_take : (world : WorldOf) (r : ℕ) → IsPlayable world (event.At r (node_event.Take 1 0) ∷ [])
plays_take world r = let made = world_move world (event.At r (node_event.Take 1 0)) in (made.1 ∷ [], (made.0, refl, refl))

plays_finishes : (world : WorldOf) (r k : ℕ) → IsPlayable world (finish_events r k)
plays_finishes world r zero = ([], refl)
plays_finishes world r (suc k) =
    playable_on world (finish_events r k) (event.At r (node_event.Finish (suc k)) ∷ []) (plays_finishes world r k)
    (plays_finish (after_events world (finish_events r k)) r (suc k))

plays_works : (world : WorldOf) (r n : ℕ) → IsPlayable world (work_events r n)
plays_works world r zero = ([], refl)
plays_works world r (suc n) =
    let here = after_events world (work_events r n) in
    playable_on world (work_events r n) (event.At r (node_event.Take 1 0) ∷ event.At r (node_event.Finish 1) ∷ []) (plays_works world r n)
    (playable_on here (event.At r (node_event.Take 1 0) ∷ []) (event.At r (node_event.Finish 1) ∷ []) (plays_take here r)
    (plays_finish (world_move here (event.At r (node_event.Take 1 0))).0 r 1))

pub settling_plays : (world : WorldOf) (r : ℕ) → IsPlayable world (settle_events world r)
settling_plays world r =
    playable_on world (emptying_events world r) (work_events r (remaining_undone world r)) (plays_finishes world r (workers_at world r))
    (plays_works (after_events world (emptying_events world r)) r (remaining_undone world r))

-- one more event
pub after_finish : (world : WorldOf) (r k : ℕ)
    → after_events world (finish_events r (suc k)) ≡ (world_move (after_events world (finish_events r k)) (event.At r (node_event.Finish (suc k)))).0
after_finish world r k = after_append world (finish_events r k) (event.At r (node_event.Finish (suc k)) ∷ [])

pub after_pair : (world : WorldOf) (r n : ℕ)
    → after_events world (work_events r (suc n))
    ≡ (world_move (world_move (after_events world (work_events r n)) (event.At r (node_event.Take 1 0))).0 (event.At r (node_event.Finish 1))).0
after_pair world r n = after_append world (work_events r n) (event.At r (node_event.Take 1 0) ∷ event.At r (node_event.Finish 1) ∷ [])

length_finishes : (r k : ℕ) → length (finish_events r k) ≡ k
length_finishes r zero = refl
length_finishes r (suc k) =
    let more = length-append (finish_events r k) (event.At r (node_event.Finish (suc k)) ∷ []) in
    let rest = length_finishes r k in
    omega (arith, more, rest)

length_works : (r n : ℕ) → length (work_events r n) ≡ 2 * n
length_works r zero = refl
length_works r (suc n) =
    let more = length-append (work_events r n) (event.At r (node_event.Take 1 0) ∷ event.At r (node_event.Finish 1) ∷ []) in
    let rest = length_works r n in
    omega (arith, more, rest)

pub length_settling : (world : WorldOf) (r : ℕ) → length (settle_events world r) ≡ workers_at world r + 2 * remaining_undone world r
length_settling world r =
    let all = length-append (emptying_events world r) (work_events r (remaining_undone world r)) in
    let hands = length_finishes r (workers_at world r) in
    let pairs = length_works r (remaining_undone world r) in
    omega (arith, all, hands, pairs)

-- ---- a replica of it moves

abbrev pub put : WorldOf → ℕ → NodeOf → WorldOf
put world r node = record world { nodes = slice_set world.nodes r node }

module _ (world : WorldOf) (r : ℕ) (node : NodeOf) (here : slice_get world.nodes r ≡ Some node) where
  at_put : (one : NodeOf) → slice_get (put world r one).nodes r ≡ Some one
  at_put one = slice_get-set_same world.nodes r one (slice_get_within world.nodes r node here)

  moves_put : (one : NodeOf) (move : NodeOf → NodeOf × Note)
      → (move_if (put world r one) r move (slice_get (put world r one).nodes r)).0 ≡ put world r (move one).0
  moves_put one move =
      ap (λ found. (move_if (put world r one) r move found).0) (at_put one)
      ∙ ap (λ nodes. record world { nodes = nodes }) (set_twice world.nodes r one (move one).0)

  put_finish : (one : NodeOf) (worker : ℕ)
      → (world_move (put world r one) (event.At r (node_event.Finish worker))).0 ≡ put world r (finish_move (bank_of world) one worker).0
  put_finish one worker = moves_put one (λ n. finish_move (bank_of world) n worker)

  put_take : (one : NodeOf) → (world_move (put world r one) (event.At r (node_event.Take 1 0))).0 ≡ put world r (take_move (bank_of world) one 1 0).0
  put_take one = moves_put one (λ n. take_move (bank_of world) n 1 0)

  after_finishes : (k : ℕ) → after_events world (finish_events r k) ≡ put world r (finishes (bank_of world) node k)
  after_finishes zero = λ j. record world { nodes = sym (set_here world.nodes r node here) j }
  after_finishes (suc k) =
      after_finish world r k ∙ ap (λ w. (world_move w (event.At r (node_event.Finish (suc k)))).0) (after_finishes k)
      ∙ put_finish (finishes (bank_of world) node k) (suc k)

  after_works : (one : NodeOf) (n : ℕ) → after_events (put world r one) (work_events r n) ≡ put world r (works (bank_of world) one n)
  after_works one zero = refl
  after_works one (suc n) =
      let mid = works (bank_of world) one n in
      after_pair (put world r one) r n
      ∙ ap (λ w. (world_move (world_move w (event.At r (node_event.Take 1 0))).0 (event.At r (node_event.Finish 1))).0) (after_works one n)
      ∙ ap (λ w. (world_move w (event.At r (node_event.Finish 1))).0) (put_take mid)
      ∙ put_finish (take_move (bank_of world) mid 1 0).0 1

  -- ---- every hand is emptied

  abbrev empty_one : NodeOf
  empty_one = finishes (bank_of world) node (length node.hands)

  emptied_so : after_events world (emptying_events world r) ≡ put world r empty_one
  emptied_so = ap (λ n. after_events world (finish_events r n)) (ap workers_if here) ∙ after_finishes (length node.hands)

  empty_at : slice_get (after_events world (emptying_events world r)).nodes r ≡ Some empty_one
  empty_at = ap (λ w. slice_get w.nodes r) emptied_so ∙ at_put empty_one

  left : remaining_undone world r ≡ undone_in empty_one
  left = ap undone_if empty_at

  rests : IsAbleToSettle node → IsAtRest empty_one
  rests able =
      let all = all_finished (bank_of world) world.sequencer.synced node able.out_in_hands in
      record {
        able = record {
          out_in_hands = all.out_in_hands;
          within = let same = all.work.stages in let within = able.within in omega (arith, same, within);
        };
        empty = all.empty;
      }

  emptied_count : length (after_events world (emptying_events world r)).nodes ≡ length world.nodes
  emptied_count = ap (λ w. length w.nodes) emptied_so ∙ length-set world.nodes r empty_one

  left_most : IsAbleToSettle node → remaining_undone world r ≤ undone_at world r
  left_most able =
      let less = (all_finished (bank_of world) world.sequencer.synced node able.out_in_hands).work.undone in
      let was : undone_at world r ≡ undone_in node = ap undone_if here in
      let is = left in
      omega (arith, less, was, is)

  -- ---- and then the rest is done

  -- the world is at rest after this many pairs
  worked_so : (n : ℕ) → after_events world (work_events r n) ≡ put world r (works (bank_of world) node n)
  worked_so n =
      ap (λ w. after_events w (work_events r n)) (λ j. record world { nodes = sym (set_here world.nodes r node here) j })
      ∙ after_works node n

  worked_at : (n : ℕ) → slice_get (after_events world (work_events r n)).nodes r ≡ Some (works (bank_of world) node n)
  worked_at n = ap (λ w. slice_get w.nodes r) (worked_so n) ∙ at_put (works (bank_of world) node n)

  worked_count : (n : ℕ) → length (after_events world (work_events r n)).nodes ≡ length world.nodes
  worked_count n = ap (λ w. length w.nodes) (worked_so n) ∙ length-set world.nodes r (works (bank_of world) node n)

  undone_here : undone_at world r ≡ undone_in node
  undone_here = ap undone_if here

  -- the number left after this many
  left_after : (n : ℕ) → IsAtRest node → n ≤ undone_at world r → n + undone_at (after_events world (work_events r n)) r ≡ undone_at world r
  left_after n rest le =
      let was = undone_here in
      let all = (does_so_many (bank_of world) world.sequencer.synced node n rest (omega (arith, le, was))).undone in
      let is : undone_at (after_events world (work_events r n)) r ≡ undone_in (works (bank_of world) node n) = ap undone_if (worked_at n) in
      omega (arith, was, all, is)

  settles_to : IsAbleToSettle node
      → after_events (after_events world (emptying_events world r)) (work_events r (remaining_undone world r)) ≡ settled_world world r
  settles_to able =
      let bank = bank_of world in
      let all = (all_finished bank world.sequencer.synced node able.out_in_hands).work in
      let stages : replicate (length empty_one.stages) IsDone ≡ replicate (length node.stages) IsDone = ap (λ n. replicate n IsDone) all.stages in
      let hands : empty_one.hands ≡ replicate (length node.hands) None =
      (rests able).empty ∙ ap (λ n. replicate n None) all.hands in
      let same : works bank empty_one (undone_in empty_one) ≡ settled_node node =
      all_worked bank world.sequencer.synced empty_one (rests able)
      ∙ ap (λ (n : NodeOf). record n { stages = replicate (length empty_one.stages) IsDone }) all.same
      ∙ (λ j. record node { stages = stages j; hands = hands j }) in
      ap (λ w. after_events w (work_events r (remaining_undone world r))) emptied_so
      ∙ ap (λ n. after_events (put world r empty_one) (work_events r n)) left
      ∙ after_works empty_one (undone_in empty_one)
      ∙ ap (put world r) same
      ∙ sym (ap (settled_world_if world r) here)

-- ---- at every replica that exists

there : (world : WorldOf) (r : ℕ) → r < length world.nodes → (node : NodeOf) × (slice_get world.nodes r ≡ Some node)
there world r lt = by (slice_get world.nodes r) refl
  where
    by : (found : Option NodeOf) → slice_get world.nodes r ≡ found → (node : NodeOf) × (slice_get world.nodes r ≡ Some node)
    by None none = absurd (past (slice_get_cases world.nodes r).1)
      where
        past : (((x : NodeOf) × (r < length world.nodes) × (slice_get world.nodes r ≡ Some x) × (get_or world.nodes r x ≡ x))
            ⊎ ((length world.nodes ≤ r) × (slice_get world.nodes r ≡ None))) → ⊥
        past (inl found) = none_some (sym none ∙ found.2)
        past (inr beyond) = omega (arith, lt, beyond.0)
    by (Some node) at = (node, at)

pub hands_emptied : (world : WorldOf) (r : ℕ) → r < length world.nodes → IsTrueAt IsAbleToSettle world r
    → IsTrueAt IsAtRest (after_events world (emptying_events world r)) r
hands_emptied world r lt able =
    let node = there world r lt in
    λ one at. subst IsAtRest (some_is (sym (empty_at world r node.0 node.1) ∙ at)) (rests world r node.0 node.1 (able node.0 node.1))

pub hands_count : (world : WorldOf) (r : ℕ) → r < length world.nodes → length (after_events world (emptying_events world r)).nodes ≡ length world.nodes
hands_count world r lt = let node = there world r lt in emptied_count world r node.0 node.1

pub left_at_most : (world : WorldOf) (r : ℕ) → r < length world.nodes → IsTrueAt IsAbleToSettle world r → remaining_undone world r ≤ undone_at world r
left_at_most world r lt able = let node = there world r lt in left_most world r node.0 node.1 (able node.0 node.1)

pub pairs_count : (world : WorldOf) (r n : ℕ) → r < length world.nodes → length (after_events world (work_events r n)).nodes ≡ length world.nodes
pairs_count world r n lt = let node = there world r lt in worked_count world r node.0 node.1 n

pub left_after_pairs : (world : WorldOf) (r n : ℕ) → r < length world.nodes → IsTrueAt IsAtRest world r → n ≤ undone_at world r
    → n + undone_at (after_events world (work_events r n)) r ≡ undone_at world r
left_after_pairs world r n lt rest le = let node = there world r lt in left_after world r node.0 node.1 n (rest node.0 node.1) le

-- nothing is undone exactly if the replica is idle
pub idle_none : (world : WorldOf) (r : ℕ) → idle_at world r ≡ true → undone_at world r ≡ 0
idle_none world r = by (slice_get world.nodes r)
  where
    by : (found : Option NodeOf) → idle_if found ≡ true → undone_if found ≡ 0
    by None idle = refl
    by (Some node) idle = eqb-true (undone_in node) 0 idle

pub busy_some : (world : WorldOf) (r : ℕ) → r < length world.nodes → (idle_at world r ≡ true → ⊥) → 0 < undone_at world r
busy_some world r lt busy =
    let node = there world r lt in
    elim (cases_eq (undone_in node.0) 0) [
      | inl none ↦ absurd (busy (ap idle_if node.1 ∙ eq-eqb (undone_in node.0) 0 none))
      | inr some ↦ let is : undone_at world r ≡ undone_in node.0 = ap undone_if node.1 in omega (arith, some, is)
    ]

busy_where : (world : WorldOf) (r : ℕ) → 0 < undone_at world r → idle_at world r ≡ false
busy_where world r = by (slice_get world.nodes r)
  where
    by : (found : Option NodeOf) → 0 < undone_if found → idle_if found ≡ false
    by None some = refl
    by (Some node) some = ne_eqb (undone_in node) 0 (λ e. omega (arith, e, some))

-- ---- settling

pub settling_after : (world : WorldOf) (r : ℕ)
    → after_events world (settle_events world r) ≡ after_events (after_events world (emptying_events world r)) (work_events r (remaining_undone world r))
settling_after world r = after_append world (emptying_events world r) (work_events r (remaining_undone world r))

pub settles : (world : WorldOf) (r : ℕ) → r < length world.nodes → IsTrueAt IsAbleToSettle world r
    → after_events world (settle_events world r) ≡ settled_world world r
settles world r lt able =
    let node = there world r lt in settling_after world r ∙ settles_to world r node.0 node.1 (able node.0 node.1)

pub busy_before : (world : WorldOf) (r : ℕ) → r < length world.nodes → IsTrueAt IsAbleToSettle world r → IsBusyBefore world r
busy_before world r lt able n more =
    let empty = after_events world (emptying_events world r) in
    let many = hands_count world r lt in
    let left = left_after_pairs empty r n (omega (arith, lt, many)) (hands_emptied world r lt able) (omega (arith, more)) in
    ap (λ w. idle_at w r) (after_append world (emptying_events world r) (work_events r n))
    ∙ busy_where (after_events empty (work_events r n)) r (omega (arith, left, more))

-- then nothing is undone
pub settled_idle : (world : WorldOf) (r : ℕ) → r < length world.nodes → idle_at (settled_world world r) r ≡ true
settled_idle world r lt =
    let node = there world r lt in
    ap (λ found. idle_at (settled_world_if world r found) r) node.1
    ∙ ap idle_if (slice_get-set_same world.nodes r (settled_node node.0) lt)
    ∙ eq-eqb (undone_in (settled_node node.0)) 0 (none_of (length node.0.stages))
  where
    none_of : (n : ℕ) → count_by is_undone (replicate n IsDone) ≡ 0
    none_of zero = refl
    none_of (suc n) = none_of n

-- ---- the result of settling

-- the world after this many workers' finishes, and then this many pairs
pub record Settles (world : WorldOf) (r : ℕ) (count : ℕ) (new : WorldOf) : Type 0 where
  pub notes : List Note
  pub plays : PlaysEvents world (settle_events world r) notes new
  pub until : IsBusyBefore world r
  pub count_is : count ≡ length (settle_events world r)
  pub most : count ≤ workers_at world r + 2 * undone_at world r
  pub idle : idle_at new r ≡ true
  pub new_is : new ≡ settled_world world r

pub settles_so : (world mid new : WorldOf) (r workers done : ℕ) → r < length world.nodes → IsTrueAt IsAbleToSettle world r
    → workers ≡ workers_at world r → mid ≡ after_events world (emptying_events world r) → done ≡ undone_at mid r → new ≡ after_events mid (work_events r done)
    → Settles world r (workers + 2 * done) new
settles_so world mid new r workers done lt able workers_is mid_is done_is new_is =
    let left : done ≡ remaining_undone world r = done_is ∙ ap (λ w. undone_at w r) mid_is in
    let after : new ≡ after_events world (settle_events world r) =
    new_is ∙ ap (λ w. after_events w (work_events r done)) mid_is
    ∙ ap (λ n. after_events (after_events world (emptying_events world r)) (work_events r n)) left
    ∙ sym (settling_after world r) in
    let is_settled = after ∙ settles world r lt able in
    let plays = settling_plays world r in
    let size = length_settling world r in
    let most = left_at_most world r lt able in
    record {
      notes = plays.0;
      plays = subst (λ w. PlaysEvents world (settle_events world r) plays.0 w) (sym after) plays.1;
      until = busy_before world r lt able;
      count_is = omega (arith, workers_is, left, size);
      most = omega (arith, workers_is, left, most);
      idle = ap (λ w. idle_at w r) is_settled ∙ settled_idle world r lt;
      new_is = is_settled;
    }
