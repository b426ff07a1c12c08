-- What the passes of a bench know.
use Rattle.std.specs.Prelude.{◌≡◌, ℕ, ◌+◌, ◌-◌, ◌≤◌, true, false, List, [], ◌∷◌, ◌++◌}
use Rattle.crossbeam_queue.specs.Passes.{Pass, view}
use Rattle.cown_bench.specs.BenchPasses.{OwnerOf, WorkerOf}
use Rattle.cown_bench.specs.Picks.{WorkOf, PickOf}
use Rattle.sb_calls.specs.declared.nodes.TheConstants.{WORKERS}
use Rattle.cown_bench.specs.declared.bench.TheConstants.{BENCH_CAPACITY}
use Rattle.cown_bench.specs.declared.pass_history.PassHistory.{PassHistory}

-- the parts of all passes together
abbrev pub all_parts : ℕ
all_parts = WORKERS + 1

-- the owner's view: its parts, what was offered, what the passes that it took in had picked, and
-- what was taken out
abbrev pub owner_view : ℕ → List WorkOf → List (List PickOf) → List WorkOf → PassHistory
owner_view parts offered absorbed drained =
    record { parts = parts; offers = true; offered = offered; picked = []; absorbed = absorbed; drained = drained }

-- a worker's view: what it picked
abbrev pub worker_view : List PickOf → PassHistory
worker_view picked = record { parts = 1; offers = false; offered = []; picked = picked; absorbed = []; drained = [] }

-- the view of a pass that was taken in
abbrev pub absorbed_view : PassHistory
absorbed_view = record { parts = 0; offers = false; offered = []; picked = []; absorbed = []; drained = [] }

-- the owner's view after a worker's pass was split from it
abbrev pub with_pass_split : PassHistory → PassHistory
with_pass_split known = record known { parts = known.parts - 1 }

-- the owner's view after it took a worker's pass in
abbrev pub with_pass_absorbed : PassHistory → PassHistory → PassHistory
with_pass_absorbed known other = record known {
  parts = known.parts + other.parts;
  absorbed = known.absorbed ++ other.picked ∷ [];
}

-- the owner's pass as contracts see it
abbrev pub owner_of : Pass WorkOf PassHistory → OwnerOf
owner_of pass =
    record { bench = pass.table_id; workers = all_parts - (view pass).parts; offered = (view pass).offered }

-- a worker's pass as contracts see it
abbrev pub worker_of : Pass WorkOf PassHistory → WorkerOf
worker_of pass = record { bench = pass.table_id; picked = (view pass).picked }

-- an owner's pass before its bench is closed
pub record IsOwner (pass : Pass WorkOf PassHistory) : Type 0 where
  pub no_slot : pass.me.1 ≡ []
  pub few : (view pass).parts ≤ all_parts
  pub knows : view pass ≡ owner_view (view pass).parts (view pass).offered [] []

pub record IsWorker (pass : Pass WorkOf PassHistory) : Type 0 where
  pub no_slot : pass.me.1 ≡ []
  pub knows : view pass ≡ worker_view (view pass).picked

-- a bench's queue holds as much as a bench may
pub record HasBenchCapacity (capacity : ℕ) : Type 0 where
  pub queue : capacity ≡ BENCH_CAPACITY

-- nothing is left over yet, and there is room for as much as a bench holds
pub record HasRoom (left : List WorkOf) (room : ℕ) : Type 0 where
  pub empty : left ≡ []
  pub enough : BENCH_CAPACITY ≤ room
