-- The passes of a crew's bench, and what was picked with them.
use Rattle.std.specs.Prelude.{◌≡◌, ℕ, ◌+◌, ◌≤◌, Bool, true, false, Option, Some, None, IfSome, List, [], ◌∷◌, ◌++◌, length, count_by}
use Rattle.std.specs.Option.{option_to_list}
use Rattle.cown_bench.specs.Picks.{WorkOf, PickOf}
use Rattle.cown_bench.specs.BenchPasses.{BenchId, OwnerOf, WorkerOf}
use Rattle.cown_bench.specs.declared.work.Work.TheVariants.{Run, Stop}

-- what was picked with a pass; nothing if there is no pass
abbrev pub picked_with : Option WorkerOf → List PickOf
picked_with None = []
picked_with (Some pass) = pass.picked

-- the Work is a `Stop`
abbrev pub is_stop : WorkOf → Bool
is_stop (Run job) = false
is_stop Stop = true

-- a bench's owner's pass, the owner's own pass if it helps, and as many others as workers; no
-- `Stop` was laid out
pub record HasAllPasses (bench : BenchId) (owner : OwnerOf) (own_pass : Option WorkerOf) (workers : ℕ)
    : Type 0 where
  pub owner_pass : owner.bench ≡ bench
  pub own : IfSome own_pass (λ (pass : WorkerOf). pass.bench ≡ bench)
  pub count : owner.workers ≡ length (option_to_list own_pass) + workers
  pub at_least_one : 1 ≤ workers
  pub no_stop : count_by is_stop owner.offered ≡ 0

-- the last pick is a `Stop`
abbrev pub EndsAtStop : List PickOf → Type 0
EndsAtStop picked = (before : List PickOf) × (position : ℕ) × (picked ≡ before ++ (position, Stop) ∷ [])
