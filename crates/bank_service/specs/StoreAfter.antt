-- A bank after its sessions, and what its store holds then.
use Rattle.std.specs.Prelude.{◌≡◌, ◌≤◌, ℕ, Bool, true, false}
use Rattle.sb_checkpoint.specs.Stores.{StoreModel}
use Rattle.bank_server.specs.Saving.{StoresCheckpoint}
use Rattle.sb_replica.specs.Replica.{ReplicaOf}

-- the bank after this many sessions: an honest store stays honest and, if the bank saves and served
-- someone, holds the checkpoint of all that node 0 executed; if the bank doesn't save, the store
-- stays as it was
pub record IsStoreAfter {S : Type 0} (model : StoreModel S) (saves : Bool) (sessions : ℕ) (store : S)
    (node : ReplicaOf S) : Type 0 where
  pub honest : model.IsHonest store → model.IsHonest node.store
  pub stored : saves ≡ true → 1 ≤ sessions → model.IsHonest store → StoresCheckpoint model.slot node node
  pub unchanged : saves ≡ false → node.store ≡ store
