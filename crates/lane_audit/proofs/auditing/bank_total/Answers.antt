use Rattle.std.proofs.Common.{◌≡◌, ◌+ℤ◌, sym, ap, ap₂, ◌∙◌, subst, w64, FitsSigned}
use Rattle.lane_audit.specs.Columns.{total}
use Rattle.lane_audit.proofs.Audits.{bank_bounded, bounded_total_fits, read_sum}
use Rattle.lane_audit.proofs.auditing.bank_total.Goals as goal

is_total : (c : goal.After-sum-2) → c.sum.result +ℤ c.sum-2.result ≡ total c.args.columns.now.savings +ℤ total c.args.columns.now.checking
is_total c = ap₂ (λ a b. a +ℤ b) (c.sum.ensures ∙ ap total c.savings.ensures) (c.sum-2.ensures ∙ ap total c.checking.ensures)

fits : (c : goal.After-sum-2) → FitsSigned w64 (c.sum.result +ℤ c.sum-2.result)
fits c = subst (FitsSigned w64) (sym (is_total c)) (bounded_total_fits _ (bank_bounded c.args.columns.now c.customers-customers.ensures.valid))

pub overflow_add-result : goal.overflow_add-result
overflow_add-result c = (read_sum c.sum.result c.sum-2.result (record { sfits = c.sum.type_inv }) (record { sfits = c.sum-2.type_inv }) (fits c)).0

pub returns-clause-value : goal.returns-clause-value
returns-clause-value c = (read_sum c.sum.result c.sum-2.result (record { sfits = c.sum.type_inv }) (record { sfits = c.sum-2.type_inv }) (fits c)).1
    ∙ is_total c

pub returns-clause-bank : goal.returns-clause-bank
returns-clause-bank c = (c.args.columns.now, c.customers-customers.ensures.valid, returns-clause-value c)
