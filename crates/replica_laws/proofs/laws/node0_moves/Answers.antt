use Rattle.replica_laws.proofs.Node0Turns.{node0_moves}
use Rattle.replica_laws.proofs.laws.node0_moves.Goals as goal

pub returns : goal.returns
returns g c = node0_moves _
