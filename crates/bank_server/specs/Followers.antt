-- The followers of a bank: how they begin, and what they are sent.
use Rattle.std.specs.Prelude.{◌≡◌, ℕ, List, []}
use Rattle.sb_rows.specs.Balances.{Balances}
use Rattle.sb_checkpoint.specs.declared.memory_store.MemoryStore.{MemoryStore}
use Rattle.cown_board.specs.BoardCalls.{board_at_opening}
use Rattle.sb_replica.specs.Replica.{ReplicaOf}
use Rattle.sb_replica.specs.Log.{none_held}

-- followers that aren't started yet: the number of nodes, with node 0, and the followers' replicas
-- in order
pub record ReadyFollowersOf : Type 0 where
  pub nodes : ℕ
  pub replicas : List (ReplicaOf MemoryStore)

-- the replica has these names, is at this opening, and has nothing of the log
pub record IsAtOpening {S : Type 0} (names : List (List ℕ)) (opening : Balances) (replica : ReplicaOf S) : Type 0 where
  pub names_are : replica.names ≡ names
  pub opening_is : replica.opening ≡ opening
  pub board : replica.board ≡ board_at_opening opening []
  pub held : replica.held ≡ none_held

-- the number of nodes, with node 0; the number of followers that listen; the number of entries of the
-- log that they were sent; and how many entries node 0 had when they were compared last, 0 before
pub record FollowersOf : Type 0 where
  pub nodes : ℕ
  pub listening : ℕ
  pub sent : ℕ
  pub compared : ℕ
