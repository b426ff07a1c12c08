use Rattle.std.proofs.Common.{Ok, subst, ap, ◌∙◌}
use Rattle.cown_board.specs.Board.{length_of}
use Rattle.sb_replica.specs.Marking.{Puts, IsMarkFaultOf, up_to_cut}
use Rattle.schedule_player.proofs.checkpoints.CheckpointSteps.{Does, told_of, marks_well, marks_badly, marks_busy, mark_refused}
use Rattle.schedule_player.proofs.node.Node.mark.Goals as goal

pub returns-in-Ok : goal.returns-in-Ok
returns-in-Ok c bank r is =
    let told = c.tell.ensures in
    marks_well bank r c.args.self.now c.args.how c.mark.new.self c.in-Ok.length is
    (c.in-Ok.ensures.ok.0 ∙ ap (λ x. length_of (up_to_cut x.board)) told)
    (subst (λ x. Puts Does x (Ok tt) c.mark.new.self) told c.in-Ok.ensures.ok.1)

pub returns-in-Err-Device : goal.returns-in-Err-Device
returns-in-Err-Device c bank r is =
    marks_badly bank r c.args.self.now c.args.how c.mark.new.self is
    (subst (λ f. IsMarkFaultOf Does (told_of c.args.self.now.replica c.args.how) f c.mark.new.self) c.in-Err-Device.field-0-is
    (subst (λ x. IsMarkFaultOf Does x c.in-Err-Device.field-0 c.mark.new.self) c.tell.ensures c.in-Err-Device.ensures.err))

pub returns-in-Err-Busy : goal.returns-in-Err-Busy
returns-in-Err-Busy c bank r is =
    marks_busy bank r c.args.self.now c.args.how c.mark.new.self is
    (subst (λ f. IsMarkFaultOf Does (told_of c.args.self.now.replica c.args.how) f c.mark.new.self) c.in-Err-Busy.field-0-is
    (subst (λ x. IsMarkFaultOf Does x c.in-Err-Busy.field-0 c.mark.new.self) c.tell.ensures c.in-Err-Busy.ensures.err))

pub returns-in-Err-OutOfMemory : goal.returns-in-Err-OutOfMemory
returns-in-Err-OutOfMemory c bank r is =
    mark_refused bank r c.args.self.now c.args.how c.mark.new.self is
    (subst (λ f. IsMarkFaultOf Does (told_of c.args.self.now.replica c.args.how) f c.mark.new.self) c.in-Err-OutOfMemory.field-0-is
    (subst (λ x. IsMarkFaultOf Does x c.in-Err-OutOfMemory.field-0 c.mark.new.self) c.tell.ensures c.in-Err-OutOfMemory.ensures.err))
