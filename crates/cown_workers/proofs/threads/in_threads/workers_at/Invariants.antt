-- No pass is lost, and each has a worker at the bench.
use Rattle.std.proofs.Common.{◌≡◌, ◌≤◌, ◌++◌, length, vec_capacity}
use Rattle.std.specs.Prelude.{All}
use Rattle.std.specs.Vec.Iter.{into_iter_items}
use Rattle.cown_workers.proofs.threads.in_threads.workers_at.Given as goal

abbrev pub invariant-loop-pass : goal.invariant-loop-pass
invariant-loop-pass g l = record {
  left : All (λ pass. pass.bench ≡ l.bench) (into_iter_items l.pass-iterator);
  rest : l.yielded ++ into_iter_items l.pass-iterator ≡ l.fn.passes.items;
  room : length l.fn.passes.items ≤ vec_capacity l.workers;
  as_many : length l.workers.items ≡ length l.yielded;
  bench : All (λ worker. worker.bench.now ≡ l.bench) l.workers.items;
}
