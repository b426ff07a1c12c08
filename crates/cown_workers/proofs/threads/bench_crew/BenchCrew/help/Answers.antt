-- A pick with the owner's pass is a pick of the owner.
use Rattle.cown_workers.proofs.OwnerPicks.{picks_itself, picks_no_job}
use Rattle.std.proofs.lemmas.Option.{IfSome_then}
use Rattle.cown_workers.proofs.threads.bench_crew.BenchCrew.help.Goals as goal

pub returns-clause-job_picked : goal.returns-clause-job_picked
returns-clause-job_picked g c = IfSome_then c.pick_and_run.result c.pick_and_run.ensures.job_picked
    (λ done (job, picks, is_of). (job, picks_itself _ _ _ _ _ _ _ c.self.view_is c.in-Some.is picks, is_of))

pub returns-clause-no_job_picked : goal.returns-clause-no_job_picked
returns-clause-no_job_picked g c = picks_no_job _ _ _ _ _ _ c.pick_and_run.result c.self.view_is c.in-Some.is c.pick_and_run.ensures.no_job_picked
