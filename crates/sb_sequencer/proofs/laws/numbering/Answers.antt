use Rattle.sb_sequencer.proofs.LogSteps.{log_after-empty}
use Rattle.sb_sequencer.proofs.laws.numbering.Goals as goal

pub returns : goal.returns
returns c = log_after-empty
