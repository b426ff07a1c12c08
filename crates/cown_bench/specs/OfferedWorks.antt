-- All that is offered is picked or left.
use Rattle.std.specs.Prelude.{◌≡◌, ℕ, ◌+◌, ◌<◌, ◌≤◌, ◌==◌, nat_lt, if◌then◌else◌, Some, List, All, AllPairs, length, drop, sum_by, count_by, slice_get}
use Rattle.cown_bench.specs.Picks.{WorkOf, PickOf}

-- the positions rise: each is above those before it
abbrev pub AreRising : List PickOf → Type 0
AreRising picks = AllPairs (λ (first later : PickOf). first.0 < later.0) picks

-- each pick is the Work that was offered at its position
abbrev pub AreOffered : List WorkOf → List PickOf → Type 0
AreOffered offered picks = All (λ (pick : PickOf). slice_get offered pick.0 ≡ Some pick.1) picks

-- how often a position occurs in all these lists together
abbrev pub times_picked : ℕ → List (List PickOf) → ℕ
times_picked position lists = sum_by (count_by (λ (pick : PickOf). pick.0 == position)) lists

-- what was offered was picked or is left; each worker's picks are one of these lists
pub record IsSplitInto (offered : List WorkOf) (picked : List (List PickOf)) (left : List WorkOf) : Type 0 where
  -- how many were picked: a first part of what was offered
  pub count : ℕ
  pub within : count ≤ length offered
  -- the others are left, in order
  pub others : left ≡ drop count offered
  -- each position of the first part was picked once, and no other position was
  pub once : (position : ℕ) → times_picked position picked ≡ (if nat_lt position count then 1 else 0)
  pub rising : All AreRising picked
  pub as_offered : All (AreOffered offered) picked

-- the sum of the weights of all that was picked
abbrev pub weight_picked : (WorkOf → ℕ) → List (List PickOf) → ℕ
weight_picked weight lists = sum_by (sum_by (λ (pick : PickOf). weight pick.1)) lists

-- for any weight of a Work, what was picked and what is left weigh as much as what was offered
abbrev pub WeighAlike : List WorkOf → List (List PickOf) → List WorkOf → Type 0
WeighAlike offered picked left =
    (weight : WorkOf → ℕ) → weight_picked weight picked + sum_by weight left ≡ sum_by weight offered
