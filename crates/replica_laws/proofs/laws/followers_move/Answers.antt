use Rattle.replica_laws.proofs.FollowerTurns.{turns_are_moves}
use Rattle.replica_laws.proofs.laws.followers_move.Goals as goal

pub returns : goal.returns
returns c = turns_are_moves
