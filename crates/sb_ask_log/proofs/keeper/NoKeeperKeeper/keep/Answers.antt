use Rattle.sb_ask_log.proofs.Keeping.{keeper_stays}
use Rattle.sb_ask_log.proofs.keeper.NoKeeperKeeper.keep.Goals as goal

pub returns-clause-stays : goal.returns-clause-stays
returns-clause-stays c = keeper_stays c.args.self.now c.args._log.now.log
