use Rattle.sb_log.proofs.Lives.{tells_for_good}
use Rattle.sb_log.proofs.laws.tells_for_good.Goals as goal

pub returns : goal.returns
returns c = tells_for_good
