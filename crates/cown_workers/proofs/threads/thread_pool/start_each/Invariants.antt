-- Each thread belongs to a worker at the bench.
use Rattle.std.proofs.Common.{◌≡◌, ◌≤◌, ◌++◌, length, vec_capacity}
use Rattle.std.specs.Prelude.{All}
use Rattle.std.specs.Vec.Iter.{into_iter_items}
use Rattle.cown_workers.proofs.threads.thread_pool.start_each.Given as goal

abbrev pub invariant-loop-worker : goal.invariant-loop-worker
invariant-loop-worker g l = record {
  left : All (λ worker. worker.bench.now ≡ l.bench) (into_iter_items l.worker-iterator);
  rest : l.yielded ++ into_iter_items l.worker-iterator ≡ l.fn.workers.items;
  few : length l.threads.items ≤ length l.yielded;
  room : length l.fn.workers.items ≤ vec_capacity l.threads;
  bench : All (λ thread. thread.promise.0.value ≡ l.bench) l.threads.items;
}
