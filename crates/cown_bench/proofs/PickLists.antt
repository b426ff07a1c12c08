-- Picks of what was taken, while more is taken.
use Rattle.std.proofs.Common.{◌≡◌, ℕ, zero, suc, ◌+◌, ◌<◌, Some, List, [], ◌∷◌, ◌++◌, length, get_or, refl, arith}
use Rattle.std.specs.Prelude.{All, slice_get, sum_by}
use Rattle.std.proofs.lemmas.List.Elements.{All-nil, All-cons, All-head, All-tail, All-push, All-weaker}
use Rattle.std.proofs.lemmas.List.Quantifiers.{all_pairs_push}
use Rattle.std.proofs.lemmas.List.Sums.{sum_by-cons, sum_by_push}
use Rattle.std.proofs.lemmas.Option.{none-some, slice_get_within}
use Rattle.cown_bench.specs.inner.BenchRule.{ArePicks}
use Rattle.cown_bench.specs.OfferedWorks.{AreOffered}
use Rattle.cown_bench.specs.Picks.{WorkOf, PickOf}

slice_get-front : {A : Type 0} (xs ys : List A) (k : ℕ) (x : A) → slice_get xs k ≡ Some x → slice_get (xs ++ ys) k ≡ Some x
slice_get-front [] ys k x here = absurd (none-some x here)
slice_get-front (y ∷ xs) ys zero x here = here
slice_get-front (y ∷ xs) ys (suc k) x here = slice_get-front xs ys k x here

slice_get-last : {A : Type 0} (xs : List A) (y : A) → slice_get (xs ++ y ∷ []) (length xs) ≡ Some y
slice_get-last [] y = refl
slice_get-last (x ∷ xs) y = slice_get-last xs y

-- the Work at a position stays there when the list grows
pub AreOffered-longer : (offered more : List WorkOf) (picks : List PickOf) → AreOffered offered picks → AreOffered (offered ++ more) picks
AreOffered-longer offered more picks right k d lt = slice_get-front offered more (get_or picks k d).0 (get_or picks k d).1 (right k d lt)

module _ (taken : List WorkOf) where
  pub ArePicks-nil : ArePicks taken []
  ArePicks-nil = record {
    rising = λ i j d lt below. absurd (omega arith);
    right = λ k d below. absurd (omega arith);
  }

  pub ArePicks-longer : (more : List WorkOf) (picks : List PickOf) → ArePicks taken picks → ArePicks (taken ++ more) picks
  ArePicks-longer more picks are = record { rising = are.rising; right = AreOffered-longer taken more picks are.right }

  -- what is taken next is picked last
  pub ArePicks-push : (work : WorkOf) (picks : List PickOf) → ArePicks taken picks → ArePicks (taken ++ work ∷ []) (picks ++ (length taken, work) ∷ [])
  ArePicks-push work picks are = record {
    rising = all_pairs_push (λ (first later : PickOf). first.0 < later.0) picks (length taken, work) are.rising
        (λ k d lt. slice_get_within taken (get_or picks k d).0 (get_or picks k d).1 (are.right k d lt));
    right = All-push (λ (pick : PickOf). slice_get (taken ++ work ∷ []) pick.0 ≡ Some pick.1) picks (length taken, work)
        (AreOffered-longer taken (work ∷ []) picks are.right) (slice_get-last taken work);
  }

-- lists of picks; the first is the pass's own
module _ (taken : List WorkOf) (own : List PickOf) (absorbed : List (List PickOf)) (are : All (ArePicks taken) (own ∷ absorbed)) where
  pub own_picks : ArePicks taken own
  own_picks = All-head (ArePicks taken) own absorbed are

  pub told_picks : All (ArePicks taken) absorbed
  told_picks = All-tail (ArePicks taken) own absorbed are

  pub lists-longer : (more : List WorkOf) → All (ArePicks (taken ++ more)) (own ∷ absorbed)
  lists-longer more = All-weaker (ArePicks taken) (ArePicks (taken ++ more)) (ArePicks-longer taken more) (own ∷ absorbed) are

  pub lists-pick : (work : WorkOf) → All (ArePicks (taken ++ work ∷ [])) ((own ++ (length taken, work) ∷ []) ∷ absorbed)
  lists-pick work =
      All-cons (ArePicks (taken ++ work ∷ [])) (own ++ (length taken, work) ∷ []) absorbed (ArePicks-push taken work own own_picks)
      (All-weaker (ArePicks taken) (ArePicks (taken ++ work ∷ [])) (ArePicks-longer taken (work ∷ [])) absorbed told_picks)

  pub lists-absorbed : (other : List PickOf) → ArePicks taken other → All (ArePicks taken) (own ∷ (absorbed ++ other ∷ []))
  lists-absorbed other theirs =
      All-cons (ArePicks taken) own (absorbed ++ other ∷ []) own_picks (All-push (ArePicks taken) absorbed other told_picks theirs)

-- nothing was picked
pub lists-nil : (taken : List WorkOf) → All (ArePicks taken) ([] ∷ [])
lists-nil taken = All-cons (ArePicks taken) [] [] (ArePicks-nil taken) (All-nil (ArePicks taken))

-- what lists of picks weigh
module _ (weight : PickOf → ℕ) where
  pub weight-own : (own : List PickOf) (absorbed : List (List PickOf))
      → sum_by (sum_by weight) (own ∷ absorbed) ≡ sum_by weight own + sum_by (sum_by weight) absorbed
  weight-own own absorbed = sum_by-cons (sum_by weight) own absorbed

  pub weight-pick : (own : List PickOf) (pick : PickOf) (absorbed : List (List PickOf))
      → sum_by (sum_by weight) ((own ++ pick ∷ []) ∷ absorbed) ≡ sum_by (sum_by weight) (own ∷ absorbed) + weight pick
  weight-pick own pick absorbed =
      omega (arith, weight-own (own ++ pick ∷ []) absorbed, weight-own own absorbed, sum_by_push weight own pick)

  pub weight-absorbed : (absorbed : List (List PickOf)) (other : List PickOf)
      → sum_by (sum_by weight) ([] ∷ (absorbed ++ other ∷ [])) ≡ sum_by (sum_by weight) ([] ∷ absorbed) + sum_by (sum_by weight) (other ∷ [])
  weight-absorbed absorbed other =
      omega (arith, weight-own [] (absorbed ++ other ∷ []), weight-own [] absorbed, weight-own other [], sum_by_push (sum_by weight) absorbed other)
