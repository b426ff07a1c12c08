use Rattle.std.proofs.Common.{◌≡◌, ◌+◌, ◌-◌, ◌<◌, ℕ, [], ◌∷◌, length, sym, ap, ◌∙◌, subst, length-append, arith}
use Rattle.std.specs.Prelude.{All}
use Rattle.std.proofs.lemmas.List.Elements.{All-push}
use Rattle.cown_bench.specs.BenchPasses.{WorkerOf}
use Rattle.cown_bench.specs.inner.PassViews.{all_parts, owner_view, with_pass_split, worker_of}
use Rattle.cown_bench.proofs.RuleSteps.{cuts_as}
use Rattle.cown_bench.proofs.worker_passes.split_passes.Goals as goal

pub another-pass-requires-clause-rule : goal.another-pass-requires-clause-rule
another-pass-requires-clause-rule c =
    let some_part : 0 < all_parts - c.loop.counter = omega (arith, c.loop-test.true, c.requires.limit) in
    cuts_as _ _ (all_parts - c.loop.counter) [] some_part c.loop.invariant.rest

pub loop-preserved : goal.loop-preserved
loop-preserved c =
    let before = c.loop.invariant in
    let made = c.another-pass.ensures in
    let pushed = c.push_reserved.ensures in
    let new : WorkerOf = record { bench = c.args.queue.now.table.shared.table_id; picked = [] } in
    let one_less : all_parts - c.loop.counter - 1 ≡ all_parts - (c.loop.counter + 1) = omega arith in
    let is_new : worker_of c.another-pass.result ≡ new = λ i. record { bench = made.queue.1.0 i; picked = (made.rule.1 i).picked } in
    record {
      here = (made.queue.0.0 ∙ before.here.0, made.queue.0.2 ∙ before.here.1);
      rest = made.rule.0 ∙ ap with_pass_split before.rest ∙ ap (λ (parts : ℕ). owner_view parts [] [] []) one_less;
      made = subst (All (λ (pass : WorkerOf). pass ≡ new)) (sym pushed.items)
          (All-push (λ (pass : WorkerOf). pass ≡ new) c.loop.passes.items (worker_of c.another-pass.result) before.made is_new);
      count = omega (arith, ap length pushed.items, length-append c.loop.passes.items (worker_of c.another-pass.result ∷ []), before.count);
      room = omega (arith, pushed.capacity, before.room);
    }
