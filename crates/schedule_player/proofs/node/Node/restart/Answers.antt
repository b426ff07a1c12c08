use Rattle.std.proofs.Common.{subst}
use Rattle.sb_replica.specs.Restarting.{IsRestartFaultOf}
use Rattle.schedule_player.proofs.checkpoints.CheckpointSteps.{Does, goes_back, never_bad, restart_refused}
use Rattle.schedule_player.proofs.node.Node.restart.Goals as goal

pub returns-in-Ok : goal.returns-in-Ok
returns-in-Ok c bank r is = goes_back bank r c.args.self.now c.restart.new.self c.in-Ok.length is c.in-Ok.ensures.ok

pub returns-in-Err-BadCheckpoint : goal.returns-in-Err-BadCheckpoint
returns-in-Err-BadCheckpoint c bank r is =
    absurd (never_bad bank r c.args.self.now c.restart.new.self c.in-Err-BadCheckpoint.field-0-0 is
    (subst (λ f. IsRestartFaultOf Does c.args.self.now.replica f c.restart.new.self) c.in-Err-BadCheckpoint.field-0-is c.in-Err-BadCheckpoint.ensures.err))

pub returns-in-Err-OutOfMemory : goal.returns-in-Err-OutOfMemory
returns-in-Err-OutOfMemory c bank r is =
    restart_refused bank r c.args.self.now c.restart.new.self is
    (subst (λ f. IsRestartFaultOf Does c.args.self.now.replica f c.restart.new.self) c.in-Err-OutOfMemory.field-0-is c.in-Err-OutOfMemory.ensures.err)
