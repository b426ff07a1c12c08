use Rattle.sb_calls.proofs.SerialRuns.{log_by_cowns}
use Rattle.sb_calls.proofs.laws.logs_by_cowns.Goals as goal

pub returns : goal.returns
returns c = log_by_cowns
