-- One more thread returned its pass.
use Rattle.std.proofs.Common.{[], ◌∷◌, ◌++◌, ap, length, length-append, arith}
use Rattle.std.proofs.lemmas.List.{length-map}
use Rattle.std.proofs.lemmas.List.Elements.{All-push}
use Rattle.std.specs.Vec.Iter.{into_iter_items}
use Rattle.cown_bench.specs.BenchPasses.{WorkerOf}
use Rattle.cown_workers.proofs.ClosedBenches.{one_more_alike, one_more_put, one_more_taken, some_left}
use Rattle.cown_workers.specs.inner.PassPicks.{EndsAtStop}
use Rattle.cown_workers.proofs.threads.thread_pool.join_each.Goals as goal

pub push_reserved-requires : goal.push_reserved-requires
push_reserved-requires g c =
    let before = c.loop-thread.invariant in
    let more = some_left c.loop-thread.yielded (into_iter_items c.next.new.self) (into_iter_items c.loop-thread.thread-iterator) c.in-Some.thread
    c.args.threads.items c.in-Some.ensures.steps.0 before.rest in
    omega (
      arith,
      more,
      before.room,
      c.loop-thread.passes.ok,
      ap length before.items,
      length-append c.args.passes.items before.workers,
      simp length-map at (ap length before.benches),
    )

pub loop-thread-preserved : goal.loop-thread-preserved
loop-thread-preserved g c =
    let before = c.loop-thread.invariant in
    let pushed = c.push_reserved.ensures in
    record {
      rest = one_more_taken c.loop-thread.yielded (into_iter_items c.next.new.self) (into_iter_items c.loop-thread.thread-iterator) c.in-Some.thread
          c.args.threads.items c.in-Some.ensures.steps.0 before.rest;
      workers = before.workers ++ c.join.result ∷ [];
      items = one_more_put c.args.passes.items before.workers _ c.push_reserved.new.self.items c.join.result
          pushed.items before.items;
      benches = one_more_alike (λ (pass : WorkerOf). pass.bench) (λ thread. thread.promise.0.value) before.workers c.loop-thread.yielded c.join.result
          c.in-Some.thread before.benches c.join.ensures.0;
      stopped = All-push (λ (pass : WorkerOf). EndsAtStop pass.picked) before.workers c.join.result before.stopped c.join.ensures.1;
      room = omega (arith, pushed.capacity, before.room);
    }
