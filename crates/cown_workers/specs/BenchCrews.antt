-- What one exchange with a crew at a bench does.
use Rattle.std.specs.Prelude.{◌≡◌, ℕ, ◌≤◌, ◌⊎◌, Bool, true, Option, Some, None, List, [], ◌∷◌, ◌++◌, length, replicate}
use Rattle.sb_calls.specs.declared.op.Op.{Op}
use Rattle.cown_board.specs.Job.{DoneOf}
use Rattle.cown_bench.specs.OfferedWorks.{IsSplitInto}
use Rattle.cown_bench.specs.Picks.{WorkOf, PickOf}
use Rattle.cown_bench.specs.declared.bench.TheConstants.{BENCH_CAPACITY}
use Rattle.cown_bench.specs.declared.work.Work.TheVariants.{Run, Stop}
use Rattle.cown_workers.specs.Draining.{CrewStep, Kept, CameBack, HandedOver, IsResultOf}

-- a crew at a bench: the number of its workers, each in its own thread, and whether its owner is
-- one more; what it laid out, and what its owner picked itself, both in order
pub record BenchCrewOf : Type 0 where
  pub workers : ℕ
  pub owner_helps : Bool
  pub offered : List WorkOf
  pub picked : List PickOf

-- a new crew of this many workers, whose owner helps only if the gate admits it
pub record IsFresh (hired : ℕ) (admits : Bool) (crew : BenchCrewOf) : Type 0 where
  pub workers : crew.workers ≡ hired
  pub owner : crew.owner_helps ≡ true → admits ≡ true
  pub offered : crew.offered ≡ []
  pub picked : crew.picked ≡ []

-- the owner helps and picked this Work, at some position; nothing else changed
abbrev pub PicksItself : BenchCrewOf → WorkOf → BenchCrewOf → Type 0
PicksItself old work new =
    (old.owner_helps ≡ true) × ((position : ℕ) × (new ≡ record old { picked = old.picked ++ (position, work) ∷ [] }))

-- what an owner hands over after it picked this Work: the result of a job. Nothing is said of a
-- `Stop`, because a crew isn't asked for anything once it shuts down.
abbrev pub IsMadeOf : WorkOf → Option (DoneOf Op) → Type 0
IsMadeOf (Run job) (Some done) = IsResultOf done job
IsMadeOf (Run job) None = ⊥
IsMadeOf Stop answer = Unit {0}

-- the owner picked a Work, and hands over what it made of it
pub record HandsOverItsOwn (old : BenchCrewOf) (answer : Option (DoneOf Op)) (new : BenchCrewOf) : Type 0 where
  pub work : WorkOf
  pub picks : PicksItself old work new
  pub made : IsMadeOf work answer

-- what was laid out and picked, before and after an exchange. A kept job is laid out after the
-- others; one comes back only if at least 1,040 were laid out. Whatever is handed over came from a
-- worker, and then nothing changed, or it is the result of what the owner picked.
abbrev pub ActsAtBench : BenchCrewOf → CrewStep → BenchCrewOf → Type 0
ActsAtBench old (Kept job) new = new ≡ record old { offered = old.offered ++ Run job ∷ [] }
ActsAtBench old (CameBack job) new = (new ≡ old) × (BENCH_CAPACITY ≤ length old.offered)
ActsAtBench old (HandedOver answer) new = (new ≡ old) ⊎ HandsOverItsOwn old answer new

-- a crew went home: a `Stop` for each worker follows everything that it had laid out, and each Work
-- of this was picked once, by its owner or by one worker; nothing is left
pub record ShutsDown (crew : BenchCrewOf) : Type 0 where
  -- what each worker picked
  pub by_workers : List (List PickOf)
  pub count : length by_workers ≡ crew.workers
  pub parted : IsSplitInto (crew.offered ++ replicate crew.workers Stop) (crew.picked ∷ by_workers) []
