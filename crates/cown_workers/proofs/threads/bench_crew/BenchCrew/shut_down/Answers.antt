-- The passes that come back are those of the bench.
use Rattle.std.proofs.Common.{ap, length, length-append, arith}
use Rattle.std.specs.Option.{option_to_list}
use Rattle.cown_bench.specs.BenchPasses.{OwnerOf}
use Rattle.cown_workers.proofs.ClosedBenches.{all_alike, as_many_alike, shuts_down, passes_here}
use Rattle.cown_workers.proofs.threads.bench_crew.BenchCrew.shut_down.Goals as goal

pub close-requires-clause-workers : goal.close-requires-clause-workers
close-requires-clause-workers g c =
    let (workers, items, benches, stopped) = c.join_all-workers.ensures in
    passes_here _ c.self.inside.own_pass workers _ items c.self.invariant.0.own (all_alike _ _ _ _ _ benches c.self.invariant.1)

pub close-requires-clause-worker_count : goal.close-requires-clause-worker_count
close-requires-clause-worker_count g c =
    let (workers, items, benches, stopped) = c.join_all-workers.ensures in
    omega (
      arith,
      ap length items,
      length-append (option_to_list c.self.inside.own_pass) workers,
      as_many_alike _ _ c.self.inside.owner_side.pass.bench _ _ benches,
      c.self.invariant.0.count,
      ap (λ (o : OwnerOf). o.workers) c.stop_workers-owner.ensures,
    )

pub returns : goal.returns
returns g c =
    let (workers, items, benches, stopped) = c.join_all-workers.ensures in
    shuts_down _ _ _ _ _ _ workers _ _ c.self.view_is c.len.ensures c.stop_workers-owner.ensures items
    (as_many_alike _ _ c.self.inside.owner_side.pass.bench _ _ benches) c.close.ensures.split
    c.close.ensures.weights c.self.invariant.0.no_stop stopped c.self.invariant.0.at_least_one
