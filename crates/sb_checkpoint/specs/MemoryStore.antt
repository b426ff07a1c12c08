-- A store in memory.
use Rattle.std.specs.Prelude.{◌≡◌, ◌≢◌, ℕ, ◌⊎◌, Option, None, Some, Ok, Err, List}
use Rattle.sb_checkpoint.specs.Stores.{StoreModel, StoreStep, Put, Get, GetFault, saturating_increment}
use Rattle.sb_checkpoint.specs.declared.memory_store.How.{How}
use Rattle.sb_checkpoint.specs.declared.memory_store.How.TheVariants as how
use Rattle.sb_checkpoint.specs.declared.store.StoreFault.TheVariants.{Device, OutOfMemory}

-- what it holds, how its next put ends, and how often a put has failed
pub record MemoryStoreOf : Type 0 where
  pub slot : Option (List ℕ)
  pub next : How
  pub failures : ℕ

-- a put ends as planned, and the next one succeeds; a get changes nothing, its device never fails,
-- and it is refused memory only if there is a content
abbrev pub MemoryActs : MemoryStoreOf → StoreStep → MemoryStoreOf → Type 0
MemoryActs old (Put bytes (Ok done)) new =
    (old.next ≡ how.Ok) × (new ≡ record old { slot = Some bytes })
MemoryActs old (Put bytes (Err Device)) new =
    ((old.next ≡ how.Old) × (new ≡ record old { next = how.Ok; failures = saturating_increment old.failures }))
    ⊎ ((old.next ≡ how.New)
    × (new ≡ record { slot = Some bytes; next = how.Ok; failures = saturating_increment old.failures }))
MemoryActs old (Put bytes (Err OutOfMemory)) new = new ≡ old
MemoryActs old (Get content) new = (content ≡ old.slot) × (new ≡ old)
MemoryActs old (GetFault Device) new = ⊥
MemoryActs old (GetFault OutOfMemory) new = (old.slot ≢ None) × (new ≡ old)

-- a store in memory holds what its model says
abbrev pub memory_model : StoreModel MemoryStoreOf
memory_model = record {
  slot = λ store. store.slot;
  IsHonest = λ store. Unit {0};
  failures = λ store. store.failures;
  acts = MemoryActs;
}
