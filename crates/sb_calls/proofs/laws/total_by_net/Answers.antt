use Rattle.sb_calls.proofs.Nets.{total_after}
use Rattle.sb_calls.proofs.laws.total_by_net.Goals as goal

pub returns : goal.returns
returns c = total_after
