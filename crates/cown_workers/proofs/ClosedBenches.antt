-- A crew's bench, once it is closed.
use Rattle.std.proofs.Common.{◌≡◌, ℕ, ◌+◌, ◌<◌, ◌≤◌, Option, Some, None, List, [], ◌∷◌, ◌++◌, length, length-append, map, replicate, sym, ap, ◌∙◌, append_assoc, subst, arith}
use Rattle.std.specs.Prelude.{◌==◌, IfSome, count_by}
use Rattle.std.specs.List.{All}
use Rattle.std.specs.Option.{option_to_list}
use Rattle.std.proofs.lemmas.List.{length-map, get_or-map, map-append}
use Rattle.std.proofs.lemmas.List.Elements.{All-cons, All-map, All-same}
use Rattle.std.proofs.lemmas.List.Sums.{sum_by-cons}
use Rattle.cown_bench.specs.BenchPasses.{BenchId, OwnerOf, WorkerOf, picked_of}
use Rattle.cown_bench.specs.OfferedWorks.{AreRising, AreOffered, IsSplitInto, WeighAlike, times_picked}
use Rattle.cown_bench.specs.Picks.{WorkOf, PickOf}
use Rattle.cown_bench.specs.declared.work.Work.TheVariants.{Stop}
use Rattle.cown_workers.proofs.OwnerPicks.{crew_with}
use Rattle.cown_workers.proofs.Stops.{nothing_left}
use Rattle.cown_workers.specs.BenchCrews.{BenchCrewOf, ShutsDown}
use Rattle.cown_workers.specs.inner.PassPicks.{EndsAtStop, is_stop, picked_with}

-- two lists with the same images: if all elements of one map to x, so do all of the other
module _ {A B X : Type 0} (f : A → X) (g : B → X) (x : X) where
  pub all_alike : (xs : List A) (ys : List B) → map f xs ≡ map g ys → All (λ b. g b ≡ x) ys → All (λ a. f a ≡ x) xs
  all_alike xs ys same all = λ k d lt.
      sym (get_or-map f xs k d (f d) lt)
      ∙ All-same (λ y. y ≡ x) (map f xs) (map g ys) same (All-map (λ y. y ≡ x) g ys all) k (f d) (omega (arith, lt, length-map xs f))

  pub as_many_alike : (xs : List A) (ys : List B) → map f xs ≡ map g ys → length xs ≡ length ys
  as_many_alike xs ys same = sym (length-map xs f) ∙ ap length same ∙ length-map ys g

-- one more of each
pub one_more_alike : {A B X : Type 0} (f : A → X) (g : B → X) (xs : List A) (ys : List B) (x : A) (y : B) → map f xs ≡ map g ys → f x ≡ g y
    → map f (xs ++ x ∷ []) ≡ map g (ys ++ y ∷ [])
one_more_alike f g xs ys x y same here =
    map-append f xs (x ∷ []) ∙ ap (λ l. l ++ f x ∷ []) same ∙ ap (λ z. map g ys ++ z ∷ []) here ∙ sym (map-append g ys (y ∷ []))

-- one more element was taken from a list, and appended to another
module _ {A : Type 0} where
  pub one_more_taken : (before rest left : List A) (x : A) (all : List A) → left ≡ x ∷ rest → before ++ left ≡ all
      → (before ++ x ∷ []) ++ rest ≡ all
  one_more_taken before rest left x all first whole =
      append_assoc before (x ∷ []) rest ∙ ap (λ l. before ++ l) (sym first) ∙ whole

  -- as long as one is left, fewer were taken than there are
  pub some_left : (before rest left : List A) (x : A) (all : List A) → left ≡ x ∷ rest → before ++ left ≡ all → length before < length all
  some_left before rest left x all first whole = omega (arith, ap length first, ap length whole, length-append before left)

  pub one_more_put : (front more old new : List A) (x : A) → new ≡ old ++ x ∷ [] → old ≡ front ++ more → new ≡ front ++ (more ++ x ∷ [])
  one_more_put front more old new x put whole = put ∙ ap (λ l. l ++ x ∷ []) whole ∙ append_assoc front more (x ∷ [])

-- the owner's pass and the workers' are of the bench
pub passes_here : (bench : BenchId) (own_pass : Option WorkerOf) (workers passes : List WorkerOf) → passes ≡ option_to_list own_pass ++ workers
    → IfSome own_pass (λ (own_pass : WorkerOf). own_pass.bench ≡ bench) → All (λ (w : WorkerOf). w.bench ≡ bench) workers
    → All (λ (w : WorkerOf). w.bench ≡ bench) passes
passes_here bench None workers passes items own theirs = All-same (λ (w : WorkerOf). w.bench ≡ bench) passes workers items theirs
passes_here bench (Some own_pass) workers passes items own theirs =
    All-same (λ (w : WorkerOf). w.bench ≡ bench) passes (own_pass ∷ workers) items (All-cons (λ (w : WorkerOf). w.bench ≡ bench) own_pass workers own theirs)

-- a pass without picks changes nothing
with_nothing : (offered : List WorkOf) (picked : List (List PickOf)) (left : List WorkOf) → IsSplitInto offered picked left
    → IsSplitInto offered ([] ∷ picked) left
with_nothing offered picked left parted = record {
  count = parted.count;
  within = parted.within;
  others = parted.others;
  once = λ position.
      let first : times_picked position ([] ∷ picked) ≡ 0 + times_picked position picked =
      sum_by-cons (count_by (λ (pick : PickOf). pick.0 == position)) [] picked in
      let rest : 0 + times_picked position picked ≡ times_picked position picked = omega arith in
      first ∙ rest ∙ parted.once position;
  rising = All-cons AreRising [] picked (λ i j d lt below. absurd (omega arith)) parted.rising;
  as_offered = All-cons (AreOffered offered) [] picked (λ k d below. absurd (omega arith)) parted.as_offered;
}

-- the owner's picks come first, even if there are none
owner_first : (offered : List WorkOf) (own_pass : Option WorkerOf) (workers : List WorkerOf) (left : List WorkOf)
    → IsSplitInto offered (picked_of (option_to_list own_pass ++ workers)) left → IsSplitInto offered (picked_with own_pass ∷ picked_of workers) left
owner_first offered None workers left parted = with_nothing offered (picked_of workers) left parted
owner_first offered (Some own_pass) workers left parted = parted

pub shuts_down : (threads count : ℕ) (before owner : OwnerOf) (own_pass : Option WorkerOf)
    (passes workers : List WorkerOf) (left : List WorkOf) (crew : BenchCrewOf)
    → crew_with threads before.offered own_pass ≡ crew
    → count ≡ threads → owner ≡ record before { offered = before.offered ++ replicate count Stop }
    → passes ≡ option_to_list own_pass ++ workers → length workers ≡ threads
    → IsSplitInto owner.offered (picked_of passes) left → WeighAlike owner.offered (picked_of passes) left
    → count_by is_stop before.offered ≡ 0 → All (λ (pass : WorkerOf). EndsAtStop pass.picked) workers → 1 ≤ threads
    → ShutsDown crew
shuts_down threads count before owner own_pass passes workers left crew view counted stops items as_many parted alike none stopped some =
    let offered : owner.offered ≡ before.offered ++ replicate threads Stop =
    ap (λ (o : OwnerOf). o.offered) stops ∙ ap (λ n. before.offered ++ replicate n Stop) counted in
    let whole : IsSplitInto (before.offered ++ replicate threads Stop) (picked_of (option_to_list own_pass ++ workers)) left =
    subst (λ (x : List WorkOf × List WorkerOf). IsSplitInto x.0 (picked_of x.1) left) (λ i. (offered i, items i)) parted in
    let weighs : WeighAlike (before.offered ++ replicate threads Stop) (picked_of (option_to_list own_pass ++ workers)) left =
    subst (λ (x : List WorkOf × List WorkerOf). WeighAlike x.0 (picked_of x.1) left) (λ i. (offered i, items i)) alike in
    let nothing : left ≡ [] = nothing_left before.offered threads own_pass workers left whole weighs none stopped as_many some in
    subst ShutsDown view (record {
      by_workers = picked_of workers;
      count = length-map workers (λ (w : WorkerOf). w.picked) ∙ as_many;
      parted = subst (IsSplitInto (before.offered ++ replicate threads Stop) (picked_with own_pass ∷ picked_of workers)) nothing
          (owner_first (before.offered ++ replicate threads Stop) own_pass workers left whole);
    })
