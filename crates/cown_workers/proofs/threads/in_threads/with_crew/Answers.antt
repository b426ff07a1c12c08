-- The passes of the bench are its workers' and the owner's.
use Rattle.std.proofs.Common.{◌≡◌, ◌<◌, inl, inr, List, [], length, count_by, sym, ap, ◌∙◌, subst, length-append, arith}
use Rattle.std.specs.List.{All}
use Rattle.std.specs.Option.{option_to_list}
use Rattle.std.proofs.lemmas.Bool.{cases_lt}
use Rattle.std.proofs.lemmas.List.Elements.{All-pop, All-weaker}
use Rattle.std.proofs.lemmas.Result.{IfOk-weaker}
use Rattle.cown_bench.specs.BenchPasses.{BenchId, OwnerOf, WorkerOf}
use Rattle.cown_workers.specs.BenchCrews.{BenchCrewOf}
use Rattle.cown_workers.specs.inner.PassPicks.{is_stop}
use Rattle.cown_workers.proofs.OwnerPicks.{fresh_taken}
use Rattle.cown_workers.proofs.threads.in_threads.with_crew.Goals as goal

-- passes that picked nothing yet are passes of their bench
of_bench : (bench : BenchId) (passes : List WorkerOf) → All (λ pass. pass ≡ record { bench = bench; picked = [] }) passes
    → All (λ pass. pass.bench ≡ bench) passes
of_bench bench passes = All-weaker (λ pass. pass ≡ record { bench = bench; picked = [] }) (λ pass. pass.bench ≡ bench)
    (λ pass fresh. ap (λ (p : WorkerOf). p.bench) fresh) passes

pub pickers-requires : goal.pickers-requires
pickers-requires g c = c.requires.limit

pub take_extra_pass-own_pass-requires-clause-enough : goal.take_extra_pass-own_pass-requires-clause-enough
take_extra_pass-own_pass-requires-clause-enough g c = omega (arith, c.pickers.ensures.enough, c.in_ok-bench.ensures.as_many)

pub take_extra_pass-own_pass-requires-clause-limit : goal.take_extra_pass-own_pass-requires-clause-limit
take_extra_pass-own_pass-requires-clause-limit g c = elim (cases_lt c.args.workers c.pickers.result) [
  | inl more ↦ (let one = (c.pickers.ensures.owner more).0 in omega (arith, one, c.in_ok-bench.ensures.as_many))
  | inr none ↦ omega (arith, none, c.in_ok-bench.ensures.as_many)
]

pub new-unstarted_crew-requires-clause-workers : goal.new-unstarted_crew-requires-clause-workers
new-unstarted_crew-requires-clause-workers g c = c.in_ok-hired.ensures.bench

pub new-unstarted_crew-requires-clause-limit : goal.new-unstarted_crew-requires-clause-limit
new-unstarted_crew-requires-clause-limit g c =
    omega (arith, c.requires.limit, c.in_ok-hired.ensures.as_many, c.take_extra_pass-own_pass.ensures.as_many)

pub new-unstarted_crew-requires-clause-passes : goal.new-unstarted_crew-requires-clause-passes
new-unstarted_crew-requires-clause-passes g c =
    let made = c.in_ok-bench.ensures in
    let taken = c.take_extra_pass-own_pass.ensures in
    record {
      owner_pass = ap (λ (pass : OwnerOf). pass.bench) made.owner;
      own = (All-pop (λ pass. pass.bench ≡ _) _ _ _ taken.parted (of_bench _ _ made.passes)).1;
      count =
          let many = ap (λ (pass : OwnerOf). pass.workers) made.owner in
          let parted = ap length taken.parted in
          let longer = length-append (c.take_extra_pass-own_pass.new.passes.items) (option_to_list c.take_extra_pass-own_pass.result) in
          omega (arith, many, parted, made.as_many, c.in_ok-hired.ensures.as_many, longer);
      at_least_one = omega (arith, c.requires.at_least_one, c.in_ok-hired.ensures.as_many, taken.as_many);
      no_stop = ap (λ (pass : OwnerOf). count_by is_stop pass.offered) made.owner;
    }

pub workers_at-requires : goal.workers_at-requires
workers_at-requires g c =
    (All-pop (λ pass. pass.bench ≡ c.in_ok-bench.bench) _ _ _ c.take_extra_pass-own_pass.ensures.parted (of_bench _ _ c.in_ok-bench.ensures.passes)).0

pub returns : goal.returns
returns g c =
    let made = c.new-unstarted_crew.ensures in
    record {
      answer = IfOk-weaker c.with_started_crew.result _ _
          (λ answer (after, called, home). (
            c.new-unstarted_crew.result,
            after,
            record {
              workers = ap (λ (crew : BenchCrewOf). crew.workers) made ∙ c.in_ok-hired.ensures.as_many ∙ c.take_extra_pass-own_pass.ensures.as_many;
              owner = λ helps.
                  (c.pickers.ensures.owner
                  (subst (λ n. c.args.workers < n) c.in_ok-bench.ensures.as_many
                  (c.take_extra_pass-own_pass.ensures.above (sym (ap (λ (crew : BenchCrewOf). crew.owner_helps) made) ∙ helps)))).1;
              offered = ap (λ (crew : BenchCrewOf). crew.offered) made ∙ ap (λ (pass : OwnerOf). pass.offered) c.in_ok-bench.ensures.owner;
              picked = ap (λ (crew : BenchCrewOf). crew.picked) made
                  ∙ fresh_taken c.in_ok-bench.bench _ _ _ c.take_extra_pass-own_pass.ensures.parted c.in_ok-bench.ensures.passes;
            },
            called,
            home,
          ))
          c.with_started_crew.ensures.answer;
    }
