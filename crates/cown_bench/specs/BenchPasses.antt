-- A bench and its passes, as contracts see them.
use Rattle.std.specs.Prelude.{◌≡◌, ℕ, List, [], ◌∷◌, ◌++◌, map}
use Rattle.atomic_table.specs.Seated.{TableId}
use Rattle.cown_bench.specs.Picks.{WorkOf, PickOf}

-- a bench's identity: which one it is
abbrev pub BenchId : Type 0
BenchId = TableId

-- the owner's pass: its bench, the number of that bench's workers, and what was offered, in order
pub record OwnerOf : Type 0 where
  pub bench : BenchId
  pub workers : ℕ
  pub offered : List WorkOf

-- a worker's pass: its bench, and what was picked, in order
pub record WorkerOf : Type 0 where
  pub bench : BenchId
  pub picked : List PickOf

-- the worker picked this Work, at some position
abbrev pub PicksWork : WorkerOf → WorkOf → WorkerOf → Type 0
PicksWork old work new =
    (position : ℕ) × (new ≡ record old { picked = old.picked ++ (position, work) ∷ [] })

-- what each of these passes picked
abbrev pub picked_of : List WorkerOf → List (List PickOf)
picked_of workers = map (λ (worker : WorkerOf). worker.picked) workers
