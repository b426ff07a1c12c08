-- The passes so far are taken in.
use Rattle.std.proofs.Common.{◌≡◌, ◌+◌, ◌-◌, ◌++◌, [], length}
use Rattle.std.specs.Vec.Iter.{into_iter_items}
use Rattle.crossbeam_queue.specs.Passes.{IsPassOf, view}
use Rattle.cown_bench.specs.BenchPasses.{picked_of}
use Rattle.cown_bench.specs.inner.PassViews.{all_parts, owner_view}
use Rattle.cown_bench.proofs.worker_passes.absorb_passes.Given as goal

abbrev pub invariant-loop-worker : goal.invariant-loop-worker
invariant-loop-worker l = record {
  here : IsPassOf l.queue l.pass;
  knows : view l.pass ≡ owner_view (all_parts - l.fn.owner.workers + length l.yielded) l.fn.owner.offered (picked_of l.yielded) [];
  rest : l.yielded ++ into_iter_items l.worker-iterator ≡ l.fn.workers.items;
}
