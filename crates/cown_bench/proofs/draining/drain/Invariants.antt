-- What is taken out so far.
use Rattle.std.proofs.Common.{◌≡◌, ◌-◌, ◌≤◌, vec_capacity, vec_len}
use Rattle.crossbeam_queue.specs.Passes.{IsPassOf, view}
use Rattle.cown_bench.specs.inner.PassViews.{all_parts, owner_view}
use Rattle.cown_bench.specs.declared.bench.TheConstants.{BENCH_CAPACITY}
use Rattle.cown_bench.proofs.draining.drain.Given as goal

abbrev pub invariant-loop-work : goal.invariant-loop-work
invariant-loop-work g l = record {
  here : IsPassOf l.queue l.pass;
  knows : view l.pass ≡ owner_view all_parts (view l.fn.pass).offered (view l.fn.pass).absorbed l.left.items;
  room : BENCH_CAPACITY ≤ vec_capacity l.left;
}

abbrev pub decreases-loop-work : goal.decreases-loop-work
decreases-loop-work g l = BENCH_CAPACITY - vec_len l.left
