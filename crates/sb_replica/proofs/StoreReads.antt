-- A replica whose store was read, with all else as it was.
use Rattle.std.proofs.Common.{◌≡◌, ℕ, Option, List, inl, inr, refl, subst}
use Rattle.sb_checkpoint.specs.Checkpoint.{Origin}
use Rattle.sb_checkpoint.specs.Stores.{StoreModel, StoreDoes, Get, GetFault}
use Rattle.sb_checkpoint.specs.declared.store.StoreFault.{StoreFault}
use Rattle.sb_replica.specs.Replica.{ReplicaOf, origin_of}
use Rattle.sb_replica.specs.Restarting.{IsRefusalOf, IsRestartFaultOf, of_store_fault}
use Rattle.sb_replica.specs.States.{Gives, ReadsState}
use Rattle.sb_replica.specs.declared.fault.RestartFault.{RestartFault}

-- the origin of a replica, by what is seen of it
abbrev pub origin_seen : {S : Type 0} {seen old : ReplicaOf S} → seen ≡ old → Origin
origin_seen {S} {seen} same = origin_of seen

module _ {S : Type 0} (store : StoreModel S) {seen old : ReplicaOf S} (same : seen ≡ old) (left : S) where
  -- the store failed
  pub store_fails : (failed : StoreFault) → StoreDoes store seen.store (GetFault failed) left
      → IsRestartFaultOf (StoreDoes store) old (of_store_fault failed) (record seen { store = left })
  store_fails failed got =
      subst (λ (replica : ReplicaOf S). IsRestartFaultOf (StoreDoes store) replica (of_store_fault failed) (record seen { store = left })) same
      (refl, inl (failed, got, refl))

  module _ (content : Option (List ℕ)) (got : StoreDoes store seen.store (Get content) left) where
    -- what it holds was refused
    pub refuses : (fault : RestartFault) → IsRefusalOf (origin_of seen) content fault
        → IsRestartFaultOf (StoreDoes store) old fault (record seen { store = left })
    refuses fault refused =
        subst (λ (replica : ReplicaOf S). IsRestartFaultOf (StoreDoes store) replica fault (record seen { store = left })) same
        (refl, inr (content, got, refused))

    -- it gives this state
    pub reads_state : (state : Option (ℕ × List ℕ)) → Gives (origin_of seen) content state
        → ReadsState (StoreDoes store) old state (record seen { store = left })
    reads_state state gives =
        subst (λ (replica : ReplicaOf S). ReadsState (StoreDoes store) replica state (record seen { store = left })) same
        (record { content = content; got = got; gives = gives; stays = refl })
