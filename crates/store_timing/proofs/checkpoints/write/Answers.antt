-- The bank has as many customers as wanted, and there are as many replies as a log has calls.
use Rattle.std.proofs.Common.{◌≡◌, length, ap, ◌∙◌, arith}
use Rattle.std.proofs.lemmas.Result.{IfOk-weaker}
use Rattle.store_timing.specs.declared.bench_result.BenchResult.{BenchResult}
use Rattle.store_timing.proofs.checkpoints.write.Goals as goal

pub returns : goal.returns
returns g c =
    let opening = c.in_ok-opening in
    let replies : length c.deref.result.now ≡ 1000000 = ap length c.deref.ensures.value ∙ c.in_ok-replies.ensures.count in
    let customers : length opening.opening.columns.savings ≡ 65536 = opening.opening.same_customers.same_length ∙ opening.ensures.count in
    IfOk-weaker _ _ (λ (measured : BenchResult). measured.length ≡ 10048612) (λ measured is. omega (arith, is, replies, customers))
    c.write_often.ensures
