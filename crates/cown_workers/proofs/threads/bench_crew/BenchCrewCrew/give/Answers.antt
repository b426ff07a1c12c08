-- A job that the bench takes is laid out after the others.
use Rattle.std.proofs.Common.{[], ◌∷◌, ◌++◌, ap}
use Rattle.cown_bench.specs.declared.work.Work.TheVariants.{Run}
use Rattle.cown_workers.specs.BenchCrews.{BenchCrewOf}
use Rattle.cown_workers.proofs.Stops.{passes_kept}
use Rattle.cown_workers.proofs.threads.bench_crew.BenchCrewCrew.give.Goals as goal
use Rattle.cown_workers.proofs.threads.bench_crew.BenchCrewCrew.give.Goals.{then-self-eq0, else-self-eq0}

pub invariant_of-self : goal.invariant_of-self
invariant_of-self g c =
    let was = c.self.invariant in
    let passes = passes_kept c.args.job was.0 in
    elim c.if-self-eq0.branch [
      | then-self-eq0 w ↦ rw (w.self-inside-is, c.in-Ok.ensures.ok) (passes, was.1)
      | else-self-eq0 w ↦ rw (w.self-inside-is, c.in-Ok.ensures.ok) (passes, was.1)
    ]

pub returns-after-is_none-clause-acts : goal.returns-after-is_none-clause-acts
returns-after-is_none-clause-acts g c =
    let laid_out = ap (λ (crew : BenchCrewOf). record crew { offered = crew.offered ++ Run c.args.job ∷ [] }) c.self.view_is in
    elim c.if-self-eq0.branch [
      | then-self-eq0 w ↦ rw (w.self-inside-is, c.in-Ok.ensures.ok) laid_out
      | else-self-eq0 w ↦ rw (w.self-inside-is, c.in-Ok.ensures.ok) laid_out
    ]
