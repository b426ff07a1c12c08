use Rattle.std.proofs.Common.{◌+◌, ◌*◌}
use Rattle.schedule_player.proofs.hands.SettledWorlds.{Settles, settles_so}
use Rattle.schedule_player.proofs.world.World.settle.Goals as goal

so : (c : goal.After-run_until_idle)
    → Settles c.args.self.now c.args.replica (c.finish_hands-workers.result + 2 * c.run_until_idle.result) c.run_until_idle.new.self
so c =
    let hands = c.finish_hands-workers in
    settles_so c.args.self.now hands.new.self c.run_until_idle.new.self c.args.replica hands.result c.run_until_idle.result c.requires hands.ensures.able
    hands.ensures.count hands.ensures.after c.run_until_idle.ensures.count c.run_until_idle.ensures.after

pub returns-clause-moves : goal.returns-clause-moves
returns-clause-moves c = ((so c).notes, (so c).plays)

pub returns-clause-until : goal.returns-clause-until
returns-clause-until c = (so c).until

pub returns-clause-count : goal.returns-clause-count
returns-clause-count c = (so c).count_is

pub returns-clause-limit : goal.returns-clause-limit
returns-clause-limit c = (so c).most

pub returns-clause-idle : goal.returns-clause-idle
returns-clause-idle c = (so c).idle

pub returns-clause-settled : goal.returns-clause-settled
returns-clause-settled c = (so c).new_is
