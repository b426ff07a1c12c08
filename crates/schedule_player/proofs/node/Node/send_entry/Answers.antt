use Rattle.std.proofs.Common.{sym, ap}
use Rattle.sb_sequencer.specs.Entries.{entry_of}
use Rattle.schedule_player.specs.inner.NodeInvariant.{machine_node}
use Rattle.schedule_player.specs.ReplicaMoves.{send_move}
use Rattle.schedule_player.specs.World.{bank_with}
use Rattle.schedule_player.proofs.entries.SentEntries.{entry_is}
use Rattle.schedule_player.proofs.entries.FrameSteps.{sends_one}
use Rattle.schedule_player.proofs.node.Node.send_entry.Goals as goal

-- there is no such entry
pub returns-in_default : goal.returns-in_default
returns-in_default c names opening r is = record { consistent = is; move_is = ap (send_move (machine_node c.args.self.now)) (sym c.in_default.ensures) }

pub returns : goal.returns
returns c names opening r is =
    let log = c.args.sequencer.now.synced.log in
    let found = sym c.in-Some.ensures in
    sends_one (bank_with names opening log) r c.args.self.now c.add.new.self (entry_of log c.args.number) c.in-Some.entry c.in_ok-position.position is found
    (entry_is names opening log c.args.number c.in-Some.entry found) c.in_ok-position.ensures.sent c.in_ok-position.ensures.position
