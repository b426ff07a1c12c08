-- What is offered and picked, as contracts see it.
use Rattle.std.specs.Prelude.{ℕ}
use Rattle.cown_bench.specs.declared.work.Work.{Work}

-- `Stop`, or `Run` with a job as a board hands it out: its number, its behaviour and its inputs
-- (`JobOf`)
abbrev pub WorkOf : Type 0
WorkOf = Work

-- what was picked: its position in what was offered, counted from 0, and the Work
abbrev pub PickOf : Type 0
PickOf = ℕ × WorkOf
