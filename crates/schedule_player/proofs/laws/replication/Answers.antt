use Rattle.schedule_player.proofs.logs.ReplicationLaw.{replicates}
use Rattle.schedule_player.proofs.laws.replication.Goals as goal

pub returns : goal.returns
returns c = replicates
