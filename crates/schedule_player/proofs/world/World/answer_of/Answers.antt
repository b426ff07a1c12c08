use Rattle.schedule_player.proofs.logs.WorldLogs.{answered_by_log}
use Rattle.schedule_player.proofs.world.World.answer_of.Goals as goal

pub returns-clause-log_reply : goal.returns-clause-log_reply
returns-clause-log_reply c =
    let w = c.self.inside in
    answered_by_log w.directory w.opening w.sequencer w.nodes.items c.args.self.now (record { client = c.args.client; request = c.args.request })
    c.answer_of.result c.self.view_is c.self.invariant c.answer_of.ensures
