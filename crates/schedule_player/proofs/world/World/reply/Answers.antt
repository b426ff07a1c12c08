use Rattle.schedule_player.proofs.observers.AuditResults.{looked_up}
use Rattle.schedule_player.proofs.observers.Observers.{observed_reply, reply_here}
use Rattle.schedule_player.proofs.events.EventLists.{played_bank}
use Rattle.schedule_player.specs.EventLists.{bank_after}
use Rattle.schedule_player.proofs.world.World.reply.Goals as goal

pub returns-clause-value : goal.returns-clause-value
returns-clause-value c =
    let w = c.self.inside in
    let node = c.index.result.now in
    let found = looked_up w.directory w.opening w.sequencer w.nodes.items c.args.self.now c.args.replica node c.self.view_is c.self.invariant
    c.requires c.index.ensures in
    reply_here c.args.self.now c.args.replica node found c.args.number c.reply.result c.reply.ensures.value

pub returns-clause-by_log : goal.returns-clause-by_log
returns-clause-by_log c schedule played =
    observed_reply c.args.self.now c.args.replica c.args.number c.reply.result (bank_after schedule) (returns-clause-value c)
    (played_bank schedule c.args.self.now played)
