use Rattle.sb_rows.proofs.BalanceWrites.{IsBalances-set_savings}
use Rattle.sb_rows.proofs.columns.Columns.set_savings.Goals as goal

pub invariant_of-self : goal.invariant_of-self
invariant_of-self c =
    IsBalances-set_savings c.self.inside.savings.items c.self.inside.checking.items _ c.value.result c.args.amount c.self.invariant
    c.value.ensures.value c.value.ensures.within c.requires.not_negative
