use Rattle.std.proofs.Common.{sym, subst}
use Rattle.sb_rows.specs.Rows.{SameCustomers}
use Rattle.schedule_player.proofs.running.printing.push_state.Goals as goal

pub list_rows-requires : goal.list_rows-requires
list_rows-requires c =
    subst (λ names. SameCustomers names c.in-Some.columns.now) (sym c.directory.ensures) (c.in-Some.ensures.rows c.length.result c.length.ensures).customers
