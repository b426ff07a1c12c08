use Rattle.sb_rows.proofs.BalanceWrites.{IsBalances-set_checking}
use Rattle.sb_rows.proofs.columns.Columns.set_checking.Goals as goal

pub invariant_of-self : goal.invariant_of-self
invariant_of-self c =
    IsBalances-set_checking c.self.inside.savings.items c.self.inside.checking.items _ c.value.result c.args.amount c.self.invariant
    c.value.ensures.value c.value.ensures.within
