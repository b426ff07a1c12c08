use Rattle.sb_amount.proofs.MoneyLengths.{length-money-le}
use Rattle.sb_amount.proofs.laws.totals_are_short.Goals as goal

pub returns : goal.returns
returns c = length-money-le c.args.cents c.ranges.cents
