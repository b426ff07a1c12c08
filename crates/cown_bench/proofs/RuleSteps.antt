-- Each move on a bench keeps its rule.
use Rattle.std.proofs.Common.{◌≡◌, ◌≢◌, ℕ, ◌<◌, true, false, List, [], ◌∷◌, ◌++◌, length, set, refl, sym, ap, ◌∙◌, subst, ⊎_elim, append_assoc, length-append, arith}
use Rattle.std.specs.Prelude.{sum_by}
use Rattle.std.specs.List.{enumerate_from}
use mathlib.Core.Option.{some}
use lib.ListN.{get_elem?}
use Rattle.std.proofs.lemmas.Bool.{true≢false, false≢true}
use Rattle.std.proofs.lemmas.List.Sums.{sum_by_push}
use Rattle.crossbeam_queue.specs.Fifo.{Pushes, Pops, Forks, Merges, Learns}
use Rattle.crossbeam_queue.proofs.Lists.{at_set}
use Rattle.cown_bench.specs.inner.BenchRule.{weight_known, IsPassState, IsBenchState, AddsOffer, AddsPick, HasOffered}
use Rattle.cown_bench.specs.Picks.{WorkOf, PickOf}
use Rattle.cown_bench.specs.inner.PassViews.{all_parts, owner_view, worker_view, absorbed_view, with_pass_split, with_pass_absorbed}
use Rattle.cown_bench.specs.declared.bench.TheConstants.{BENCH_CAPACITY}
use Rattle.cown_bench.specs.declared.pass_history.PassHistory.{PassHistory}
use Rattle.cown_bench.proofs.EnumeratedLists.{enumerate_from-push}
use Rattle.cown_bench.proofs.PickLists.{own_picks, lists-longer, lists-pick, lists-absorbed, lists-nil, weight-pick, weight-absorbed}
use Rattle.cown_bench.proofs.Sums.{sum_by-changed, each_set, each_push}

-- a pass that knows nothing and doesn't offer: a new worker's, or one that was taken in
fits_fresh : (owner : ℕ) (offered taken drained : List WorkOf) (parts pass : ℕ) → (0 < parts → drained ≡ [])
    → IsPassState owner offered taken drained pass (record absorbed_view { parts = parts })
fits_fresh owner offered taken drained parts pass none = record {
  sole = λ may. absurd (false≢true may);
  offers = λ may. absurd (false≢true may);
  drains = λ may. absurd (false≢true may);
  works = λ _ some_part. none some_part;
  idle = λ _. (refl, refl);
  picks = lists-nil taken;
}

-- only what the passes know moves
same_content : (items : List WorkOf) (views now : List PassHistory) (rule : IsBenchState items views)
    → sum_by (λ (known : PassHistory). known.parts) now ≡ all_parts
    → ((weight : PickOf → ℕ) → sum_by (weight_known weight) now ≡ sum_by (weight_known weight) views)
    → ((pass : ℕ) (known : PassHistory) → get_elem? now pass ≡ some known → IsPassState rule.owner rule.offered rule.taken rule.drained pass known)
    → IsBenchState items now
same_content items views now rule whole same each = record {
  owner = rule.owner;
  offered = rule.offered;
  taken = rule.taken;
  drained = rule.drained;
  order = rule.order;
  room = rule.room;
  whole = whole;
  weights = λ weight. same weight ∙ rule.weights weight;
  each = each;
}

-- the owner offers one more
pub offers_one : (n pass : ℕ) (v : PassHistory) (work : WorkOf) → n ≡ BENCH_CAPACITY → v.offers ≡ true → v.drained ≡ []
    → Pushes IsBenchState n pass v work (AddsOffer v work)
offers_one n pass v work capacity may none items views room rule here =
    let w : PassHistory = record v { offered = v.offered ++ work ∷ [] } in
    let mine = rule.each pass v here in
    let empty : length rule.drained ≡ 0 = ap length (sym (mine.drains may) ∙ none) in
    let order = ap (λ l. l ++ work ∷ []) rule.order
    ∙ (append_assoc rule.taken (rule.drained ++ items) (work ∷ []) ∙ ap (λ l. rule.taken ++ l) (append_assoc rule.drained items (work ∷ []))) in (
      w,
      record {
        owner = rule.owner;
        offered = rule.offered ++ work ∷ [];
        taken = rule.taken;
        drained = rule.drained;
        order = order;
        room = omega (arith, capacity, room, empty, length-append items (work ∷ []));
        whole = (let change = sum_by-changed (λ (known : PassHistory). known.parts) views pass v w here in omega (arith, change, rule.whole));
        weights = λ weight. (let change = sum_by-changed (weight_known weight) views pass v w here in omega (arith, change, rule.weights weight));
        each = each_set (IsPassState rule.owner (rule.offered ++ work ∷ []) rule.taken rule.drained) views pass w
            (record {
              sole = mine.sole;
              offers = λ _. ap (λ l. l ++ work ∷ []) (mine.offers may);
              drains = mine.drains;
              works = mine.works;
              idle = mine.idle;
              picks = mine.picks;
            })
            (λ j u apart there. let theirs = rule.each j u there in record {
              sole = theirs.sole;
              offers = λ they. absurd (apart (theirs.sole they ∙ sym (mine.sole may)));
              drains = theirs.drains;
              works = theirs.works;
              idle = theirs.idle;
              picks = theirs.picks;
            });
      },
      refl,
    )

-- there is no more than was offered
pub offered_all : (pass : ℕ) (v : PassHistory) → v.offers ≡ true → Learns IsBenchState pass v (HasOffered v)
offered_all pass v may items views rule here =
    let mine = rule.each pass v here in
    let known : length v.offered ≡ length rule.offered = ap length (mine.offers may) in
    let parts : length rule.offered ≡ length (rule.taken ++ (rule.drained ++ items)) = ap length rule.order in
    omega (arith, known, parts, length-append rule.taken (rule.drained ++ items), length-append rule.drained items)

-- if nothing was taken out at the end, the first goes to those that are taken
first_taken : (taken drained items : List WorkOf) (work : WorkOf) → drained ≡ []
    → taken ++ (drained ++ work ∷ items) ≡ (taken ++ work ∷ []) ++ (drained ++ items)
first_taken taken drained items work none =
    subst (λ (l : List WorkOf). taken ++ (l ++ work ∷ items) ≡ (taken ++ work ∷ []) ++ (l ++ items)) (sym none) (sym (append_assoc taken (work ∷ []) items))

-- a worker picks the first
pub picks_one : (pass : ℕ) (v : PassHistory) → v.offers ≡ false → 0 < v.parts → Pops IsBenchState pass v (AddsPick v)
picks_one pass v off some_part work items views rule here =
    let mine = rule.each pass v here in
    let none : rule.drained ≡ [] = mine.works off some_part in
    let pick : PickOf = (length rule.taken, work) in
    let taken : List WorkOf = rule.taken ++ work ∷ [] in
    let w : PassHistory = record v { picked = v.picked ++ pick ∷ [] } in (
      w,
      record {
        owner = rule.owner;
        offered = rule.offered;
        taken = taken;
        drained = rule.drained;
        order = rule.order ∙ first_taken rule.taken rule.drained items work none;
        room = omega (arith, rule.room);
        whole = (let change = sum_by-changed (λ (known : PassHistory). known.parts) views pass v w here in omega (arith, change, rule.whole));
        weights = λ weight.
            (let change = sum_by-changed (weight_known weight) views pass v w here in
            let more = weight-pick weight v.picked pick v.absorbed in
            let numbered = ap (sum_by weight) (enumerate_from-push rule.taken work) ∙ sum_by_push weight (enumerate_from 0 rule.taken) pick in
            omega (arith, change, more, numbered, rule.weights weight));
        each = each_set (IsPassState rule.owner rule.offered taken rule.drained) views pass w
            (record {
              sole = mine.sole;
              offers = mine.offers;
              drains = mine.drains;
              works = mine.works;
              idle = λ no_part. absurd (omega (arith, no_part, some_part));
              picks = lists-pick rule.taken v.picked v.absorbed mine.picks work;
            })
            (λ j u apart there. let theirs = rule.each j u there in record {
              sole = theirs.sole;
              offers = theirs.offers;
              drains = theirs.drains;
              works = theirs.works;
              idle = theirs.idle;
              picks = lists-longer rule.taken u.picked u.absorbed theirs.picks (work ∷ []);
            });
      },
      (length rule.taken, refl),
    )

-- a worker's pass is cut from that of an owner that took none in
pub cuts_one : (pass parts : ℕ) (offered : List WorkOf) → 0 < parts
    → Forks IsBenchState pass (owner_view parts offered [] []) (with_pass_split (owner_view parts offered [] [])) (worker_view [])
cuts_one pass parts offered some_part items views rule here =
    let v = owner_view parts offered [] [] in
    let w = with_pass_split v in
    let mine = rule.each pass v here in
    same_content items views (set views pass w ++ worker_view [] ∷ []) rule
    (let change = sum_by-changed (λ (known : PassHistory). known.parts) views pass v w here in
    let more = sum_by_push (λ (known : PassHistory). known.parts) (set views pass w) (worker_view []) in
    omega (arith, change, more, some_part, rule.whole))
    (λ weight.
    let change = sum_by-changed (weight_known weight) views pass v w here in
    let more = sum_by_push (weight_known weight) (set views pass w) (worker_view []) in
    omega (arith, change, more))
    (each_push (IsPassState rule.owner rule.offered rule.taken rule.drained) (set views pass w) (worker_view [])
    (λ j. fits_fresh rule.owner rule.offered rule.taken rule.drained 1 j (λ _. sym (mine.drains refl)))
    (each_set (IsPassState rule.owner rule.offered rule.taken rule.drained) views pass w
    (record {
      sole = mine.sole;
      offers = mine.offers;
      drains = mine.drains;
      works = λ off _. absurd (true≢false off);
      idle = λ _. (refl, refl);
      picks = mine.picks;
    })
    (λ j u apart there. rule.each j u there)))

-- the owner takes a worker's pass in
pub takes_in : (pass parts : ℕ) (offered : List WorkOf) (absorbed : List (List PickOf)) (other : ℕ) (picked : List PickOf)
    → Merges IsBenchState pass (owner_view parts offered absorbed []) other (worker_view picked)
    (with_pass_absorbed (owner_view parts offered absorbed []) (worker_view picked)) absorbed_view
takes_in pass parts offered absorbed other picked items views rule here apart there =
    let v = owner_view parts offered absorbed [] in
    let u = worker_view picked in
    let w = with_pass_absorbed v u in
    let mine = rule.each pass v here in
    let was : get_elem? views other ≡ some u =
    ⊎_elim (λ (x : (other ≡ pass) × (w ≡ u)). absurd (apart x.0)) (λ (x : (other ≢ pass) × (get_elem? views other ≡ some u)). x.1)
    (at_set views pass other w u there) in
    let theirs = own_picks rule.taken picked [] (rule.each other u was).picks in
    same_content items views (set (set views pass w) other absorbed_view) rule
    (let change = sum_by-changed (λ (known : PassHistory). known.parts) views pass v w here in
    let spent = sum_by-changed (λ (known : PassHistory). known.parts) (set views pass w) other u absorbed_view there in
    omega (arith, change, spent, rule.whole))
    (λ weight.
    let change = sum_by-changed (weight_known weight) views pass v w here in
    let spent = sum_by-changed (weight_known weight) (set views pass w) other u absorbed_view there in
    omega (arith, change, spent, weight-absorbed weight absorbed picked))
    (each_set (IsPassState rule.owner rule.offered rule.taken rule.drained) (set views pass w) other absorbed_view
    (fits_fresh rule.owner rule.offered rule.taken rule.drained 0 other (λ some_part. absurd (omega (arith, some_part))))
    (λ j k _ at. each_set (IsPassState rule.owner rule.offered rule.taken rule.drained) views pass w
    (record {
      sole = mine.sole;
      offers = mine.offers;
      drains = mine.drains;
      works = λ off _. absurd (true≢false off);
      idle = λ no_part. absurd (omega (arith, no_part));
      picks = lists-absorbed rule.taken [] absorbed mine.picks picked theirs;
    })
    (λ i x _ old. rule.each i x old) j k at))

-- the moves, at a known view
pub offers_as : (n pass : ℕ) (v : PassHistory) (work : WorkOf) (parts : ℕ) (offered : List WorkOf) → n ≡ BENCH_CAPACITY
    → v ≡ owner_view parts offered [] []
    → Pushes IsBenchState n pass v work (AddsOffer v work) × Learns IsBenchState pass v (HasOffered v)
offers_as n pass v work parts offered capacity is =
    let may : v.offers ≡ true = ap (λ (u : PassHistory). u.offers) is in
    (offers_one n pass v work capacity may (ap (λ (u : PassHistory). u.drained) is), offered_all pass v may)

pub picks_as : (pass : ℕ) (v : PassHistory) (picked : List PickOf) → v ≡ worker_view picked → Pops IsBenchState pass v (AddsPick v)
picks_as pass v picked is =
    let one : v.parts ≡ 1 = ap (λ (u : PassHistory). u.parts) is in
    picks_one pass v (ap (λ (u : PassHistory). u.offers) is) (omega (arith, one))

pub cuts_as : (pass : ℕ) (v : PassHistory) (parts : ℕ) (offered : List WorkOf) → 0 < parts → v ≡ owner_view parts offered [] []
    → Forks IsBenchState pass v (with_pass_split v) (worker_view [])
cuts_as pass v parts offered some_part is =
    subst (λ (u : PassHistory). Forks IsBenchState pass u (with_pass_split u) (worker_view [])) (sym is) (cuts_one pass parts offered some_part)

pub takes_in_as : (pass : ℕ) (v : PassHistory) (parts : ℕ) (offered : List WorkOf) (absorbed : List (List PickOf))
    (other : ℕ) (u : PassHistory) (picked : List PickOf)
    → v ≡ owner_view parts offered absorbed [] → u ≡ worker_view picked → Merges IsBenchState pass v other u (with_pass_absorbed v u) absorbed_view
takes_in_as pass v parts offered absorbed other u picked is theirs =
    subst (λ (x : PassHistory × PassHistory). Merges IsBenchState pass x.0 other x.1 (with_pass_absorbed x.0 x.1) absorbed_view) (λ i. (sym is i, sym theirs i))
    (takes_in pass parts offered absorbed other picked)
