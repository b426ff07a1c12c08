use Rattle.std.proofs.Common.{◌+ℤ◌, length, ap, ◌∙◌}
use Rattle.lane_audit.proofs.Audits.{expected_fits, read_sum}
use Rattle.lane_audit.proofs.auditing.audit.Goals as goal

pub overflow_add-result : goal.overflow_add-result
overflow_add-result c =
    (read_sum c.args.opening_total c.net_of_all.result c.ranges.opening_total (record { sfits = c.net_of_all.type_inv })
    (expected_fits c.args.opening_total c.net_of_all.result (length c.args.calls.now) c.requires.limit c.requires.opening c.net_of_all.ensures.within)).0

pub returns-clause-expected : goal.returns-clause-expected
returns-clause-expected c =
    (read_sum c.args.opening_total c.net_of_all.result c.ranges.opening_total (record { sfits = c.net_of_all.type_inv })
    (expected_fits c.args.opening_total c.net_of_all.result (length c.args.calls.now) c.requires.limit c.requires.opening c.net_of_all.ensures.within)).1
    ∙ ap (λ z. c.args.opening_total +ℤ z) c.net_of_all.ensures.value
