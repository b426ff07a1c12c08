use Rattle.sb_sequencer.proofs.LogSteps.{first_asks-answered, log_with-answered}
use Rattle.sb_sequencer.proofs.laws.asks_step_the_log.Goals as goal

pub returns-clause-step : goal.returns-clause-step
returns-clause-step c = log_with-answered

pub returns-clause-numbering : goal.returns-clause-numbering
returns-clause-numbering c = first_asks-answered
