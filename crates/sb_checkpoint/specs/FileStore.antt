-- A store in a file.
use Rattle.std.specs.Prelude.{◌≡◌, ℕ, Option, None, Ok, Err, List}
use Rattle.sb_checkpoint.specs.Stores.{StoreStep, Put, Get, GetFault}
use Rattle.sb_checkpoint.specs.declared.store.StoreFault.TheVariants.{Device, OutOfMemory}

-- its file, and how often the device has failed
pub record FileStoreOf (P : Type 0) : Type 0 where
  pub file : P
  pub failures : ℕ

-- a put is never refused memory, and a put that succeeds leaves no spare beside an honest file; a
-- get leaves the spare of an honest file as it is
abbrev pub FileActs : {P : Type 0} → (P → Type 0) → (P → Option (List ℕ))
    → FileStoreOf P → StoreStep → FileStoreOf P → Type 0
FileActs IsHonest spare old (Put bytes (Ok done)) new = IsHonest old.file → spare new.file ≡ None
FileActs IsHonest spare old (Put bytes (Err Device)) new = Unit {0}
FileActs IsHonest spare old (Put bytes (Err OutOfMemory)) new = ⊥
FileActs IsHonest spare old (Get content) new = IsHonest old.file → spare new.file ≡ spare old.file
FileActs IsHonest spare old (GetFault fault) new = IsHonest old.file → spare new.file ≡ spare old.file
