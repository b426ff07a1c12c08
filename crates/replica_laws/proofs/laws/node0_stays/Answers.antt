use Rattle.replica_laws.proofs.LongerLogs.{node0_stays}
use Rattle.replica_laws.proofs.laws.node0_stays.Goals as goal

pub returns : goal.returns
returns g c = node0_stays _
