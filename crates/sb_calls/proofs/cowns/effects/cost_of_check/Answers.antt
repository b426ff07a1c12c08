use Rattle.std.proofs.Common.{◌≡◌, ◌+ℤ◌, int_lt, true, false, rules}
use Rattle.sb_calls.proofs.cowns.effects.cost_of_check.Goals as goal

pub returns-then-available-value : goal.returns-then-available-value
returns-then-available-value c =
    let short : int_lt (c.args.savings +ℤ c.args.checking) c.args.amount ≡ true = search rules in rw short (search rules)

pub returns-else-available-value : goal.returns-else-available-value
returns-else-available-value c =
    let enough : int_lt (c.args.savings +ℤ c.args.checking) c.args.amount ≡ false = search rules in rw enough (search rules)
