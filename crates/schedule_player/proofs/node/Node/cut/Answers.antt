use Rattle.std.proofs.Common.{ap, ◌∙◌}
use Rattle.cown_board.specs.Board.{BoardOf}
use Rattle.sb_calls.specs.declared.op.Op.{Op}
use Rattle.schedule_player.specs.inner.NodeInvariant.{machine_node}
use Rattle.schedule_player.proofs.NodeMoves.{node_fails}
use Rattle.schedule_player.proofs.checkpoints.CheckpointSteps.{cuts_now, cuts_pending}
use Rattle.schedule_player.proofs.events.MemoryRefusals.{cuts}
use Rattle.schedule_player.proofs.node.Node.cut.Goals as goal

pub returns-in-Ok : goal.returns-in-Ok
returns-in-Ok c bank r is =
    let old = c.args.self.now.replica in
    let made = c.in-Ok.ensures.made in
    cuts_now bank r c.args.self.now c.cut.new.self c.in-Ok.length is made.1 made.0
    (c.in-Ok.ensures.rest ∙ ap (λ (b : BoardOf Op). record old { board = b }) made.2)

pub returns-in-Err-Pending : goal.returns-in-Err-Pending
returns-in-Err-Pending c bank r is =
    let old = c.args.self.now.replica in
    let made = rw c.in-Err-Pending.field-0-is at c.in-Err-Pending.ensures.made in
    cuts_pending bank r c.args.self.now c.cut.new.self c.in-Err-Pending.length is made.0
    (c.in-Err-Pending.ensures.rest ∙ ap (λ (b : BoardOf Op). record old { board = b }) made.1)

pub returns-in-Err-OutOfMemory : goal.returns-in-Err-OutOfMemory
returns-in-Err-OutOfMemory c bank r is =
    let old = c.args.self.now in
    let made = rw c.in-Err-OutOfMemory.field-0-is at c.in-Err-OutOfMemory.ensures.made in
    node_fails bank r old (record old { replica = c.cut.new.self }) is
    (ap (λ rep. record old { replica = rep })
    (c.in-Err-OutOfMemory.ensures.rest ∙ ap (λ (b : BoardOf Op). record old.replica { board = b }) made.1))
    (cuts (machine_node old) made.0)
