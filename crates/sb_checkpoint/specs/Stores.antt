-- What a store of checkpoints does.
use Rattle.std.specs.Prelude.{◌≡◌, ◌↔◌, ℕ, suc, ◌^◌, ◌-◌, ◌==◌, ◌⊎◌, if◌then◌else◌, Bool, IsTrue, Option, Some, Result, Ok, Err, List}
use Rattle.sb_checkpoint.specs.declared.store.StoreFault.{StoreFault}
use Rattle.sb_checkpoint.specs.declared.store.StoreFault.TheVariants.{Device, OutOfMemory}

-- a call of a store, with its answer: a put of bytes, a get of what it holds, or a get that failed
pub data StoreStep : Type 0 where
  Put : (bytes : List ℕ) (answer : Result (Unit {0}) StoreFault) → StoreStep
  Get : (content : Option (List ℕ)) → StoreStep
  GetFault : (fault : StoreFault) → StoreStep

-- what an honest store holds after a call; after a device fault of a put it holds wholly the old or
-- wholly the new bytes
abbrev pub ContentAfter : Option (List ℕ) → StoreStep → Option (List ℕ) → Type 0
ContentAfter old (Put bytes (Ok done)) new = new ≡ Some bytes
ContentAfter old (Put bytes (Err Device)) new = (new ≡ old) ⊎ (new ≡ Some bytes)
ContentAfter old (Put bytes (Err OutOfMemory)) new = new ≡ old
ContentAfter old (Get content) new = (content ≡ old) × (new ≡ old)
ContentAfter old (GetFault fault) new = new ≡ old

-- one more failure, up to the greatest number that can be reported
abbrev pub saturating_increment : ℕ → ℕ
saturating_increment failures = if failures == 2 ^ 64 - 1 then failures else suc failures

-- how often the device has failed after a call: once more after its fault, and else as often as
-- before
abbrev pub failures_after : ℕ → StoreStep → ℕ
failures_after failures (Put bytes (Ok done)) = failures
failures_after failures (Put bytes (Err Device)) = saturating_increment failures
failures_after failures (Put bytes (Err OutOfMemory)) = failures
failures_after failures (Get content) = failures
failures_after failures (GetFault Device) = saturating_increment failures
failures_after failures (GetFault OutOfMemory) = failures

-- what contracts know of a store: the bytes that it holds, if any were put; whether it is honest;
-- how often its device has failed; and what one call may do, from the state before to the state
-- after
pub record StoreModel (S : Type 0) : Type 1 where
  pub slot : S → Option (List ℕ)
  pub IsHonest : S → Type 0
  pub failures : S → ℕ
  pub acts : S → StoreStep → S → Type 0

-- what a store promises of a call: an honest store stays honest; what it then holds; how often its
-- device has failed by then; and what else its model says
pub record StoreDoes {S : Type 0} (store : StoreModel S) (old : S) (step : StoreStep) (new : S) : Type 0 where
  pub honest : store.IsHonest old → store.IsHonest new
  pub content : store.IsHonest old → ContentAfter (store.slot old) step (store.slot new)
  pub fails : store.failures new ≡ failures_after (store.failures old) step
  pub by_model : store.acts old step new

-- the answer is yes exactly if these bytes were found
abbrev pub ReportsSame : List ℕ → Bool → Option (List ℕ) → Type 0
ReportsSame bytes same found = IsTrue same ↔ (found ≡ Some bytes)

-- the store's bytes were got, and the answer is whether they are exactly these
pub record Compares {S : Type 0} (does : S → StoreStep → S → Type 0) (old : S) (bytes : List ℕ) (same : Bool)
    (new : S) : Type 0 where
  pub content : Option (List ℕ)
  pub get : does old (Get content) new
  pub report : ReportsSame bytes same content
