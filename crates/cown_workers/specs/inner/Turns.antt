-- One turn of a worker of a crew.
use Rattle.std.specs.Prelude.{◌≡◌}
use Rattle.sb_calls.specs.declared.op.Op.{Op}
use Rattle.cown_board.specs.Job.{JobOf}
use Rattle.cown_bench.specs.BenchPasses.{WorkerOf, PicksWork}
use Rattle.cown_bench.specs.declared.work.Work.TheVariants.{Run, Stop}
use Rattle.cown_workers.specs.declared.threads.worker.Turn.{Turn}
use Rattle.cown_workers.specs.declared.threads.worker.Turn.TheVariants.{Waited, HandedOver, Stopped}

-- a turn: the worker waited and picked nothing; or it picked a job and sent its result; or it
-- picked a `Stop`
abbrev pub WorkerTakesTurn : WorkerOf → Turn → WorkerOf → Type 0
WorkerTakesTurn old Waited new = new ≡ old
WorkerTakesTurn old (HandedOver sent) new =
    (job : JobOf Op) × (PicksWork old (Run job) new × (sent.number ≡ job.number))
WorkerTakesTurn old Stopped new = PicksWork old Stop new
