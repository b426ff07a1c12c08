use Rattle.sb_log.proofs.Lives.{keeps_what_it_told}
use Rattle.sb_log.proofs.laws.keeps_what_it_told.Goals as goal

pub returns : goal.returns
returns c = keeps_what_it_told
