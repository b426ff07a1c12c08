use Rattle.replica_laws.proofs.KeepingSyncs.{keeping_syncs}
use Rattle.replica_laws.proofs.laws.keeping_syncs.Goals as goal

pub returns : goal.returns
returns g c = keeping_syncs g.F.LogFile.IsHonest g.F.LogFile.model
