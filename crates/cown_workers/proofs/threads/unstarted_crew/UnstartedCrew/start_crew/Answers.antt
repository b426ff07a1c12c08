-- Each worker has a thread.
use Rattle.std.proofs.Common.{◌≡◌, ℕ, length, is_some, subst, ◌∙◌, arith}
use Rattle.cown_workers.specs.inner.PassPicks.{picked_with}
use Rattle.cown_workers.proofs.threads.unstarted_crew.UnstartedCrew.start_crew.Given.{Over}
use Rattle.cown_workers.proofs.threads.unstarted_crew.UnstartedCrew.start_crew.Goals as goal
use Rattle.cown_workers.proofs.threads.unstarted_crew.UnstartedCrew.start_crew.Goals.{Else-len-wanted}

as_many : (g : Over) (c : Else-len-wanted g) → length c.start_threads-thread_pool.result.threads.items ≡ length c.self.inside.workers.items
as_many g c =
    omega (arith, c.len-wanted.ensures, c.start_threads-thread_pool.ensures.limit, c.len.ensures, c.if-len-wanted.false, c.self.inside.workers.ok)

pub new-requires-clause-staff : goal.new-requires-clause-staff
new-requires-clause-staff g c = c.start_threads-thread_pool.ensures.bench

pub new-requires-clause-passes : goal.new-requires-clause-passes
new-requires-clause-passes g c = rw (as_many g c) c.self.invariant.0

pub returns-clause-crew : goal.returns-clause-crew
returns-clause-crew g c =
    let inside = c.self.inside in
    subst (λ (n : ℕ). c.new.result ≡ (record {
      workers = n;
      owner_helps = is_some inside.own_pass;
      offered = inside.owner_side.pass.offered;
      picked = picked_with inside.own_pass;
    })) (as_many g (goal.at.returns-clause-crew g c).Else-len-wanted) c.new.ensures ∙ c.self.view_is
