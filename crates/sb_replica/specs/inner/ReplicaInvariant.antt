-- What always holds of a replica.
use Rattle.std.specs.Prelude.{◌≡◌, length}
use Rattle.std.specs.List.{All}
use Rattle.sb_calls.specs.Replies.{IsReply}
use Rattle.sb_replica.specs.Replica.{ReplicaOf}

-- the opening and the board have one customer for each name, and every reply from before the board
-- has a spelling
pub record IsReplica {S : Type 0} (replica : ReplicaOf S) : Type 0 where
  pub opening : length replica.opening.savings ≡ length replica.names
  pub board : length replica.board.opening.savings ≡ length replica.names
  pub base_replies : All IsReply replica.board.base_replies
