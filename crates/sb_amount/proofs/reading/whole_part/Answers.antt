-- If there is one point, the decimals are right exactly if it is the third byte from the end.
use Rattle.std.proofs.Common.{rules, sym, ◌∙◌}
use Rattle.sb_amount.proofs.MoneyBodies.{has_two_decimals-yes, has_two_decimals-points, has_two_decimals-short, has_two_decimals-other}
use Rattle.sb_amount.proofs.reading.whole_part.Goals as goal
use Rattle.sb_amount.proofs.reading.whole_part.Goals.{in_default-via-then-body-lt3, in_default-via-in-46+else-points-eq1, in_default-via-else-body-lt3+in_default-1}

pub returns-in-46 : goal.returns-in-46
returns-in-46 c = has_two_decimals-yes c.args.body.now c.in-46.len_at_least (search rules) (sym c.requires ∙ c.if-points-eq1.true)

pub returns-in_default : goal.returns-in_default
returns-in_default c =
    let body = c.args.body.now in
    elim c.in_default.branch [
      | in_default-via-then-body-lt3 w ↦ has_two_decimals-short body (search rules)
      | in_default-via-in-46+else-points-eq1 w ↦ has_two_decimals-points body (λ one. w.if-points-eq1.false (c.requires ∙ one))
      | in_default-via-else-body-lt3+in_default-1 w ↦ has_two_decimals-other body (search rules)
    ]
