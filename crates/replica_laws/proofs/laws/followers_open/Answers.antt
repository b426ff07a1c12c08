use Rattle.replica_laws.proofs.FollowerOpenings.{followers_open}
use Rattle.replica_laws.proofs.laws.followers_open.Goals as goal

pub returns : goal.returns
returns c = followers_open
