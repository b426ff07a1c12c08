use Rattle.std.proofs.Common.{rules, ap}
use Rattle.schedule_player.proofs.NodeMoves.{node_fails}
use Rattle.schedule_player.proofs.entries.FrameSteps.{answers_nothing, answers_reply, answers_wanting}
use Rattle.schedule_player.proofs.node.Node.answer.Goals as goal

pub returns-in_default : goal.returns-in_default
returns-in_default c bank r is =
    answers_nothing bank r c.args.self.now c.args.number is c.in_default.ensures

pub returns : goal.returns
returns c bank r is =
    answers_reply bank r c.args.self.now c.add.new.self c.in-Some.frame c.args.number c.in_ok-position.position is
    c.in-Some.ensures c.in_ok-position.ensures.sent c.in_ok-position.ensures.position

pub returns-in_err-position : goal.returns-in_err-position
returns-in_err-position c bank r is =
    let old = c.args.self.now in
    let fails =
    node_fails bank r old (record old { outbound = c.add.new.self }) is (ap (λ frames. record old { outbound = frames }) c.in_err-position.ensures.err)
    (answers_wanting bank r old c.args.number c.in-Some.frame is c.in-Some.ensures) in
    search (rules, fails)
