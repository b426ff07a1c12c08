use Rattle.replica_laws.proofs.Node0Events.{node0_events}
use Rattle.replica_laws.proofs.laws.node0_events.Goals as goal

pub returns : goal.returns
returns g c = node0_events _
