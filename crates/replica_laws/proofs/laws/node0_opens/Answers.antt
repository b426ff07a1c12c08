use Rattle.replica_laws.proofs.Node0Openings.{node0_opens}
use Rattle.replica_laws.proofs.laws.node0_opens.Goals as goal

pub returns : goal.returns
returns g c = node0_opens _
