-- One more pass has a worker.
use Rattle.std.proofs.Common.{◌≡◌, ◌+◌, List, ◌∷◌, ◌++◌, [], length, sym, ap, ◌∙◌, subst, length-append, arith}
use Rattle.std.proofs.lemmas.List.Elements.{All-head, All-push, All-rest}
use Rattle.std.specs.List.{All}
use Rattle.std.specs.Vec.Iter.{into_iter_items}
use Rattle.cown_workers.proofs.ClosedBenches.{one_more_taken, some_left}
use Rattle.cown_workers.proofs.threads.in_threads.workers_at.Goals as goal

-- one more worker, and one more pass
one_more_each : {A B : Type 0} (workers : List A) (old_workers : List A) (old_passes : List B) (worker : A) (pass : B)
    → workers ≡ old_workers ++ worker ∷ [] → length old_workers ≡ length old_passes → length workers ≡ length (old_passes ++ pass ∷ [])
one_more_each workers old_workers old_passes worker pass pushed same =
    ap length pushed ∙ length-append old_workers (worker ∷ []) ∙ ap (λ n. n + 1) same ∙ sym (length-append old_passes (pass ∷ []))

pub worker_at-requires : goal.worker_at-requires
worker_at-requires g c =
    All-head (λ pass. pass.bench ≡ c.args.bench.now) c.in-Some.pass (into_iter_items c.next.new.self)
    (subst (All (λ pass. pass.bench ≡ c.args.bench.now)) c.in-Some.ensures.steps.0 c.loop-pass.invariant.left)

pub push_reserved-requires : goal.push_reserved-requires
push_reserved-requires g c =
    let before = c.loop-pass.invariant in
    let more = some_left c.loop-pass.yielded (into_iter_items c.next.new.self) (into_iter_items c.loop-pass.pass-iterator) c.in-Some.pass
    c.args.passes.items c.in-Some.ensures.steps.0 before.rest in
    omega (arith, more, before.as_many, before.room, c.loop-pass.workers.ok)

pub loop-pass-preserved : goal.loop-pass-preserved
loop-pass-preserved g c =
    let before = c.loop-pass.invariant in
    let pushed = c.push_reserved.ensures in
    record {
      left = All-rest (λ pass. pass.bench ≡ c.args.bench.now) c.in-Some.pass (into_iter_items c.next.new.self)
          (into_iter_items c.loop-pass.pass-iterator) c.in-Some.ensures.steps.0
          before.left;
      rest = one_more_taken c.loop-pass.yielded (into_iter_items c.next.new.self) (into_iter_items c.loop-pass.pass-iterator) c.in-Some.pass
          c.args.passes.items c.in-Some.ensures.steps.0 before.rest;
      room = rw pushed.capacity before.room;
      as_many = one_more_each _ c.loop-pass.workers.items c.loop-pass.yielded _ c.in-Some.pass pushed.items before.as_many;
      bench = rw pushed.items (All-push (λ w. w.bench.now ≡ c.args.bench.now) c.loop-pass.workers.items _ before.bench c.in_ok-worker_at.ensures);
    }

pub returns-clause-bench : goal.returns-clause-bench
returns-clause-bench g c = c.loop-pass.invariant.bench
