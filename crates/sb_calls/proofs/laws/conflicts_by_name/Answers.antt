use Rattle.sb_calls.proofs.Conflicts.{conflicts}
use Rattle.sb_calls.proofs.laws.conflicts_by_name.Goals as goal

pub returns : goal.returns
returns c = conflicts
