-- How many passes there are so far.
use Rattle.std.proofs.Common.{◌≡◌, ◌-◌, ◌≤◌, [], length, vec_capacity}
use Rattle.std.specs.Prelude.{All}
use Rattle.crossbeam_queue.specs.Passes.{IsPassOf, view}
use Rattle.cown_bench.specs.BenchPasses.{WorkerOf}
use Rattle.cown_bench.specs.inner.PassViews.{all_parts, owner_view}
use Rattle.cown_bench.proofs.worker_passes.split_passes.Given as goal

abbrev pub invariant-loop : goal.invariant-loop
invariant-loop l = record {
  here : IsPassOf l.queue l.owner;
  rest : view l.owner ≡ owner_view (all_parts - l.counter) [] [] [];
  made : All (λ (pass : WorkerOf). pass ≡ record { bench = l.queue.table.shared.table_id; picked = [] }) l.passes.items;
  count : length l.passes.items ≡ l.counter;
  room : l.workers ≤ vec_capacity l.passes;
}
