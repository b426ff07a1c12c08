use Rattle.std.proofs.Common.{sym, ap, subst}
use Rattle.sb_replica.specs.States.{Adopts}
use Rattle.schedule_player.proofs.NodeMoves.{node_fails}
use Rattle.schedule_player.proofs.checkpoints.StateMoves.{goes_on, stays_ahead, adopts_wanting}
use Rattle.schedule_player.proofs.node.Node.adopt.Goals as goal

pub returns-in-Ok-Adopted : goal.returns-in-Ok-Adopted
returns-in-Ok-Adopted c bank r is =
    goes_on bank r c.args.self.now c.adopt.new.self c.args.position c.in-Some.bytes.now c.in-Ok-Adopted.length is (sym c.in-Some.ensures)
    (subst (λ answer. Adopts c.args.self.now.replica c.in-Some.bytes.now answer c.adopt.new.self) c.in-Ok-Adopted.field-0-is
    c.in-Ok-Adopted.ensures.outcome)

pub returns-in-Ok-Behind : goal.returns-in-Ok-Behind
returns-in-Ok-Behind c bank r is =
    stays_ahead bank r c.args.self.now c.adopt.new.self c.args.position c.in-Some.bytes.now c.in-Ok-Behind.length is (sym c.in-Some.ensures)
    (subst (λ answer. Adopts c.args.self.now.replica c.in-Some.bytes.now answer c.adopt.new.self) c.in-Ok-Behind.field-0-is
    c.in-Ok-Behind.ensures.outcome)

pub returns-in-Err : goal.returns-in-Err
returns-in-Err c bank r is =
    node_fails bank r c.args.self.now (record c.args.self.now { replica = c.adopt.new.self }) is
    (ap (λ rep. record c.args.self.now { replica = rep }) c.in-Err.ensures.outcome.1)
    (adopts_wanting c.args.self.now c.args.position c.in-Some.bytes.now (sym c.in-Some.ensures))
