-- One more worker has a thread.
use Rattle.std.proofs.Common.{rules, ◌≡◌, [], ◌∷◌, ◌<◌, sym, ap, subst, length, length-append, arith}
use Rattle.std.specs.List.{All}
use Rattle.std.specs.Vec.Iter.{into_iter_items}
use Rattle.std.proofs.lemmas.List.Elements.{All-head, All-push, All-rest}
use Rattle.cown_workers.proofs.ClosedBenches.{one_more_taken, some_left}
use Rattle.cown_workers.proofs.threads.thread_pool.start_each.Given.{Over}
use Rattle.cown_workers.proofs.threads.thread_pool.start_each.Goals as goal
use Rattle.cown_workers.proofs.threads.thread_pool.start_each.Goals.{In-Some}

fewer : (g : Over) (c : In-Some g) → length c.loop-worker.yielded < length c.args.workers.items
fewer g c =
    some_left c.loop-worker.yielded (into_iter_items c.next.new.self) (into_iter_items c.loop-worker.worker-iterator) c.in-Some.worker c.args.workers.items
    c.in-Some.ensures.steps.0 c.loop-worker.invariant.rest

pub start_one-requires : goal.start_one-requires
start_one-requires g c =
    let here : c.in-Some.worker.bench.now ≡ c.args.bench.now =
    All-head (λ worker. worker.bench.now ≡ c.args.bench.now) c.in-Some.worker (into_iter_items c.next.new.self)
    (subst (All (λ worker. worker.bench.now ≡ c.args.bench.now)) c.in-Some.ensures.steps.0 c.loop-worker.invariant.left) in
    search rules

pub push_reserved-requires : goal.push_reserved-requires
push_reserved-requires g c =
    let more = fewer g (goal.at.push_reserved-requires g c).In-Some in
    omega (arith, more, c.loop-worker.invariant.few, c.loop-worker.invariant.room, c.loop-worker.threads.ok)

pub returns-in_default-clause-limit : goal.returns-in_default-clause-limit
returns-in_default-clause-limit g c =
    let more = fewer g (goal.at.returns-in_default-clause-limit g c).In-Some in
    omega (arith, more, c.loop-worker.invariant.few)

pub returns-in_default-clause-bench : goal.returns-in_default-clause-bench
returns-in_default-clause-bench g c = c.loop-worker.invariant.bench

pub returns-clause-limit : goal.returns-clause-limit
returns-clause-limit g c =
    let before = c.loop-worker.invariant in
    omega (arith, before.few, ap length before.rest, length-append c.loop-worker.yielded (into_iter_items c.loop-worker.worker-iterator))

pub returns-clause-bench : goal.returns-clause-bench
returns-clause-bench g c = c.loop-worker.invariant.bench

pub loop-worker-preserved : goal.loop-worker-preserved
loop-worker-preserved g c =
    let before = c.loop-worker.invariant in
    let pushed = c.push_reserved.ensures in
    let thread = c.in-Some-start_one.thread in
    record {
      left = All-rest (λ worker. worker.bench.now ≡ c.args.bench.now) c.in-Some.worker (into_iter_items c.next.new.self)
          (into_iter_items c.loop-worker.worker-iterator) c.in-Some.ensures.steps.0
          before.left;
      rest = one_more_taken c.loop-worker.yielded (into_iter_items c.next.new.self) (into_iter_items c.loop-worker.worker-iterator) c.in-Some.worker
          c.args.workers.items c.in-Some.ensures.steps.0 before.rest;
      few = omega (
        arith,
        ap length pushed.items,
        length-append c.loop-worker.threads.items (thread ∷ []),
        length-append c.loop-worker.yielded (c.in-Some.worker ∷ []),
        before.few,
      );
      room = omega (arith, pushed.capacity, before.room);
      bench = subst (All (λ t. t.promise.0.value ≡ c.args.bench.now)) (sym pushed.items)
          (All-push (λ t. t.promise.0.value ≡ c.args.bench.now) c.loop-worker.threads.items thread before.bench c.in-Some-start_one.ensures);
    }
