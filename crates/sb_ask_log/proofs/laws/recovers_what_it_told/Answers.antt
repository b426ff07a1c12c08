use Rattle.sb_ask_log.proofs.Recovering.{recovers_what_it_told}
use Rattle.sb_ask_log.proofs.laws.recovers_what_it_told.Goals as goal

pub returns : goal.returns
returns c = recovers_what_it_told
