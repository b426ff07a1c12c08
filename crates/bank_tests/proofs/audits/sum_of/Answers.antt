use Rattle.std.proofs.Common.{pos, arith}
use Rattle.std.proofs.lemmas.List.Elements.{All-from_get_or}
use Rattle.sb_amount.specs.Limit.{IsWithinLimit}
use Rattle.bank_tests.proofs.audits.sum_of.Goals as goal

pub sum-requires : goal.sum-requires
sum-requires g c = record {
  limit = omega arith;
  within = All-from_get_or IsWithinLimit c.args.values.now (pos 0) (λ k lt. c.loop-value.invariant k (omega arith));
}
