-- A result changes nothing of the bench.
use Rattle.std.proofs.Common.{inl, inr, length, ◌∙◌, ap, sym, subst}
use Rattle.cown_bench.specs.BenchPasses.{OwnerOf}
use Rattle.cown_bench.specs.declared.work.Work.TheVariants.{Run, Stop}
use Rattle.cown_workers.specs.BenchCrews.{PicksItself}
use Rattle.cown_workers.specs.Draining.{IsResultOf}
use Rattle.cown_workers.proofs.OwnerPicks.{crew_with}
use Rattle.cown_workers.proofs.threads.bench_crew.BenchCrewCrew.next.Goals as goal
use Rattle.cown_workers.proofs.threads.bench_crew.BenchCrewCrew.next.Goals.{in-Some, in-None, in-Some-help, in-None-help+in_ok-done-in-None-help}

pub invariant_of-self-in-None : goal.invariant_of-self-in-None
invariant_of-self-in-None g c = elim c.match-help.branch [
  | in-Some-help w ↦ rw w.self-inside-is c.self.invariant
  | in-None-help+in_ok-done-in-None-help w ↦
      rw (w.self-inside-is, w.next_result.ensures.pass, w.next_result.ensures.bench) c.self.invariant
]

pub invariant_of-self : goal.invariant_of-self
invariant_of-self g c = rw (c.next_result.ensures.pass, c.next_result.ensures.bench) c.self.invariant

pub invariant_of-self-2 : goal.invariant_of-self-2
invariant_of-self-2 g c = c.self-2.invariant

pub returns : goal.returns
returns g c = record {
  acts = elim c.match-handed_over.branch [
    | in-Some w ↦ inl (c.self-2.view_is ∙ w.self-is ∙ c.handed_over.ensures)
    | in-None w ↦
        let inside = w.self.inside in
        let workers = length inside.thread_pool.threads.items in
        elim w.match-help.branch [
          | in-Some-help v ↦
              let picked = v.in-Some-help.ensures.job_picked in
              let seen = c.self-2.view_is ∙ w.self-is
              ∙ ap (λ crew. crew_with (length crew.thread_pool.threads.items) crew.owner_side.pass.offered crew.own_pass) v.self-inside-is
              ∙ w.self.view_is in
              inr (record {
                work = Run picked.0;
                picks = subst (PicksItself c.args.self.now (Run picked.0)) (sym seen)
                    (subst (λ old. PicksItself old (Run picked.0) w.help.new.self) c.handed_over.ensures picked.1);
                made = subst (λ done. IsResultOf done picked.0) (sym (w.done-is ∙ v.done-is)) picked.2;
              })
          | in-None-help+in_ok-done-in-None-help v ↦
              let seen = c.self-2.view_is ∙ w.self-is
              ∙ ap (λ crew. crew_with (length crew.thread_pool.threads.items) crew.owner_side.pass.offered crew.own_pass) v.self-inside-is
              ∙ ap (λ (pass : OwnerOf). crew_with workers pass.offered inside.own_pass) v.next_result.ensures.pass
              ∙ w.self.view_is in
              elim v.in-None-help.ensures.no_job_picked [
                | inl same ↦ inl (seen ∙ same ∙ c.handed_over.ensures)
                | inr picks ↦ inr (record {
                  work = Stop;
                  picks = subst (PicksItself c.args.self.now Stop) (sym seen)
                      (subst (λ old. PicksItself old Stop w.help.new.self) c.handed_over.ensures picks);
                  made = tt;
                })
              ]
        ]
  ];
}
