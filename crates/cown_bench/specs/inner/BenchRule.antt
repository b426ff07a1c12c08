-- The rule of a bench: what its queue holds, against what its passes know.
use Rattle.std.specs.Prelude.{◌≡◌, ℕ, ◌+◌, ◌<◌, ◌≤◌, true, false, List, [], ◌∷◌, ◌++◌, All, length, sum_by}
use Rattle.std.specs.List.{enumerate_from}
use mathlib.Core.Option.{some}
use lib.ListN.{get_elem?}
use Rattle.cown_bench.specs.OfferedWorks.{AreRising, AreOffered, IsSplitInto, WeighAlike}
use Rattle.cown_bench.specs.Picks.{WorkOf, PickOf}
use Rattle.cown_bench.specs.inner.PassViews.{all_parts}
use Rattle.cown_bench.specs.declared.bench.TheConstants.{BENCH_CAPACITY}
use Rattle.cown_bench.specs.declared.pass_history.PassHistory.{PassHistory}

-- all lists of picks that a pass knows: its own, and those of the passes that it took in
abbrev pub pick_lists : PassHistory → List (List PickOf)
pick_lists known = known.picked ∷ known.absorbed

-- the sum of the weights of all picks that a pass knows
abbrev pub weight_known : (PickOf → ℕ) → PassHistory → ℕ
weight_known weight known = sum_by (sum_by weight) (pick_lists known)

-- picks of what was taken, in the order of their positions
pub record ArePicks (taken : List WorkOf) (picks : List PickOf) : Type 0 where
  pub rising : AreRising picks
  pub right : AreOffered taken picks

-- what the rule says of one pass, given the owner's pass and what was offered, taken by workers,
-- and taken out at the end
pub record IsPassState (owner : ℕ) (offered taken drained : List WorkOf) (pass : ℕ) (known : PassHistory) : Type 0 where
  -- the pass that offers is the owner's, and knows what was offered and what was taken out
  pub sole : known.offers ≡ true → pass ≡ owner
  pub offers : known.offers ≡ true → known.offered ≡ offered
  pub drains : known.offers ≡ true → known.drained ≡ drained
  -- nothing is taken out at the end while a worker has a part of the right
  pub works : known.offers ≡ false → 0 < known.parts → drained ≡ []
  -- a pass without a part knows nothing
  pub idle : known.parts ≡ 0 → (known.picked ≡ []) × (known.absorbed ≡ [])
  pub picks : All (ArePicks taken) (pick_lists known)

pub record IsBenchState (items : List WorkOf) (views : List PassHistory) : Type 0 where
  pub owner : ℕ
  pub offered : List WorkOf
  pub taken : List WorkOf
  pub drained : List WorkOf
  -- what was offered was taken by workers, then taken out at the end, or is still there
  pub order : offered ≡ taken ++ (drained ++ items)
  pub room : length drained + length items ≤ BENCH_CAPACITY
  pub whole : sum_by (λ (known : PassHistory). known.parts) views ≡ all_parts
  -- for any weights, the picks that the passes know weigh as much as what was taken, with its
  -- positions
  pub weights : (weight : PickOf → ℕ) → sum_by (weight_known weight) views ≡ sum_by weight (enumerate_from 0 taken)
  pub each : (pass : ℕ) (known : PassHistory) → get_elem? views pass ≡ some known
      → IsPassState owner offered taken drained pass known

-- one more Work was offered
abbrev pub AddsOffer : PassHistory → WorkOf → PassHistory → Type 0
AddsOffer known work after = after ≡ record known { offered = known.offered ++ work ∷ [] }

-- one more Work was picked, at some position
abbrev pub AddsPick : PassHistory → WorkOf → PassHistory → Type 0
AddsPick known work after = (position : ℕ) × (after ≡ record known { picked = known.picked ++ (position, work) ∷ [] })

-- one more Work was taken out at the end, and there is room for it
abbrev pub AddsLeft : PassHistory → WorkOf → PassHistory → Type 0
AddsLeft known work after =
    (length known.drained < BENCH_CAPACITY) × (after ≡ record known { drained = known.drained ++ work ∷ [] })

-- at least as many Works were offered as are still there
abbrev pub HasOffered : PassHistory → List WorkOf → Type 0
HasOffered known items = length items ≤ length known.offered

-- the pass knows all: what was taken out and what is still there is what nobody picked
abbrev pub KnowsAll : PassHistory → List WorkOf → Type 0
KnowsAll known items =
    IsSplitInto known.offered known.absorbed (known.drained ++ items)
    × WeighAlike known.offered known.absorbed (known.drained ++ items)
