-- A store whose device fails at one call.
use Rattle.std.specs.Prelude.{◌≡◌, ◌≢◌, ℕ, ◌-◌, Option, Some, Ok, Err, List}
use Rattle.sb_checkpoint.specs.MemoryStore.{MemoryActs, MemoryStoreOf}
use Rattle.sb_checkpoint.specs.Stores.{StoreModel, StoreStep, Put, Get, GetFault, saturating_increment}
use Rattle.sb_checkpoint.specs.declared.faulty_store.Version.{Version}
use Rattle.sb_checkpoint.specs.declared.faulty_store.Version.TheVariants.{Old, New}
use Rattle.sb_checkpoint.specs.declared.store.StoreFault.TheVariants.{Device, OutOfMemory}

-- its store in memory, which call from now on fails (1 is the next, 0 is none), and which bytes a
-- failing put leaves
pub record FaultyStoreOf : Type 0 where
  pub inner : MemoryStoreOf
  pub at : ℕ
  pub leaves : Version

-- the content after a put of these bytes failed
abbrev pub content_of_version : Version → Option (List ℕ) → List ℕ → Option (List ℕ)
content_of_version Old content bytes = content
content_of_version New content bytes = Some bytes

-- the call at which the device fails: the failure is counted, and a get changes nothing else
abbrev pub Fails : FaultyStoreOf → StoreStep → FaultyStoreOf → Type 0
Fails old (Put bytes (Ok done)) new = ⊥
Fails old (Put bytes (Err Device)) new = new ≡ record old {
  inner = record old.inner {
    slot = content_of_version old.leaves old.inner.slot bytes;
    failures = saturating_increment old.inner.failures;
  };
  at = 0;
}
Fails old (Put bytes (Err OutOfMemory)) new = (old.leaves ≡ New) × (new ≡ old)
Fails old (Get content) new = ⊥
Fails old (GetFault Device) new =
    new ≡ record old { inner = record old.inner { failures = saturating_increment old.inner.failures }; at = 0 }
Fails old (GetFault OutOfMemory) new = ⊥

-- the number of the failing call, counted from the next call on; a call that is refused memory
-- isn't counted
abbrev pub countdown_after : ℕ → StoreStep → ℕ
countdown_after at (Put bytes (Ok done)) = at - 1
countdown_after at (Put bytes (Err Device)) = at - 1
countdown_after at (Put bytes (Err OutOfMemory)) = at
countdown_after at (Get content) = at - 1
countdown_after at (GetFault Device) = at - 1
countdown_after at (GetFault OutOfMemory) = at

-- the call whose turn it is fails; every other call acts on the store in memory
abbrev pub FaultyActs : FaultyStoreOf → StoreStep → FaultyStoreOf → Type 0
FaultyActs old step new =
    (old.at ≡ 1 → Fails old step new)
    × (old.at ≢ 1 → MemoryActs old.inner step new.inner
    × (new ≡ record old { inner = new.inner; at = countdown_after old.at step }))

-- it holds what its store in memory holds, and its device fails if that one fails, or at the chosen
-- call
abbrev pub faulty_model : StoreModel FaultyStoreOf
faulty_model = record {
  slot = λ store. store.inner.slot;
  IsHonest = λ store. Unit {0};
  failures = λ store. store.inner.failures;
  acts = FaultyActs;
}
