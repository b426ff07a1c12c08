use Rattle.replica_laws.proofs.FollowerMessages.{messages_are_moves}
use Rattle.replica_laws.proofs.laws.messages_move.Goals as goal

pub returns : goal.returns
returns c = messages_are_moves
