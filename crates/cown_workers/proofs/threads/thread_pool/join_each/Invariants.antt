-- Each thread so far returned a pass of the bench that it promised, whose last pick is a `Stop`.
use Rattle.std.proofs.Common.{◌≡◌, ◌+◌, ◌≤◌, List, ◌++◌, length, map, vec_capacity}
use Rattle.std.specs.Vec.Iter.{into_iter_items}
use Rattle.std.specs.List.{All}
use Rattle.cown_bench.specs.BenchPasses.{WorkerOf}
use Rattle.cown_workers.specs.inner.PassPicks.{EndsAtStop}
use Rattle.cown_workers.proofs.threads.thread_pool.join_each.Given as goal

abbrev pub invariant-loop-thread : goal.invariant-loop-thread
invariant-loop-thread g l = record {
  rest : l.yielded ++ into_iter_items l.thread-iterator ≡ l.fn.threads.items;
  workers : List WorkerOf;
  items : l.passes.items ≡ l.fn.passes.items ++ workers;
  benches : map (λ (pass : WorkerOf). pass.bench) workers ≡ map (λ thread. thread.promise.0.value) l.yielded;
  stopped : All (λ (pass : WorkerOf). EndsAtStop pass.picked) workers;
  room : length l.fn.passes.items + length l.fn.threads.items ≤ vec_capacity l.passes;
}
