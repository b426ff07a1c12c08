use Rattle.std.proofs.Common.{◌-◌}
use Rattle.cown_board.proofs.ReadyListSteps.{behind_within, due_now, isnt_due, not_due_yet}
use Rattle.cown_board.specs.inner.DuePositions.{is_due}
use Rattle.cown_board.proofs.ready_list.ReadyList.step_forward.Goals as goal

pub returns-else-behind-eq0-clause-due : goal.returns-else-behind-eq0-clause-due
returns-else-behind-eq0-clause-due c waits bound below waiting listed =
    not_due_yet waits c.args.self.now.behind.items c.args.position bound c.requires.behind (c.index.result.now - 1) c.args.self.now.ready.items
    c.if-behind-eq0.false listed

pub returns-then-behind-eq0-clause-due : goal.returns-then-behind-eq0-clause-due
returns-then-behind-eq0-clause-due c waits bound below waiting listed =
    let behind = c.args.self.now.behind.items in
    let position = c.args.position in
    due_now waits behind position bound (c.index.result.now - 1) (behind_within behind position c.requires.behind) c.if-behind-eq0.true waiting
    c.put_in_order.new.list.items
    (c.put_in_order.ensures.items (is_due waits behind) bound below (isnt_due waits behind position bound c.requires.behind) listed)
