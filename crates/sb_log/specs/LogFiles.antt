-- What is done to a log's file.
use Rattle.std.specs.Prelude.{◌≡◌, ◌⊎◌, ◌↔◌, ℕ, ◌+◌, ◌≤◌, min, Bool, true, Result, Ok, Err, List, ◌++◌, length, drop, take}
use Rattle.sb_text.specs.declared.input.ReadFault.{ReadFault}
use Rattle.sb_text.specs.declared.input.TheConstants.{READS}
use Rattle.sb_text.specs.declared.input.ReadFault.TheVariants.{Device, OutOfMemory}

-- a file: its bytes; how many of them a crash leaves for sure; and how many of them the next sync that
-- answers Ok has on the disk for sure. After a sync that failed, the system may hold bytes for clean that
-- never came to the disk, and no later sync takes them there
pub record LogFileOf : Type 0 where
  pub content : List ℕ
  pub synced : ℕ
  pub syncable : ℕ

-- these bytes stand in the content at this place
abbrev pub StandAt : ℕ → List ℕ → List ℕ → Type 0
StandAt at bytes content = take (length bytes) (drop at content) ≡ bytes

-- it has the same bytes, and what was synced of them still is; no more is known
pub record KeepsSynced (old new : LogFileOf) : Type 0 where
  pub content_is : new.content ≡ old.content
  pub synced_in : old.synced ≤ new.synced

-- these bytes are appended. If a sync would reach all bytes before, it reaches these too
pub record AppendsBytes (bytes : List ℕ) (old new : LogFileOf) : Type 0 where
  pub content_is : new.content ≡ old.content ++ bytes
  pub synced_in : old.synced ≤ new.synced
  pub syncable_in : length old.content ≤ old.syncable → length new.content ≤ new.syncable

-- a beginning of these bytes is appended; no more is known
pub record AppendsPart (bytes : List ℕ) (old new : LogFileOf) : Type 0 where
  pub kept : ℕ
  pub content_is : new.content ≡ old.content ++ take kept bytes
  pub synced_in : old.synced ≤ new.synced

-- what a sync reaches is synced
pub record SyncsFile (old new : LogFileOf) : Type 0 where
  pub content_is : new.content ≡ old.content
  pub synced_in : old.synced ≤ new.synced
  pub reached : old.syncable ≤ new.synced
  pub syncable_in : old.syncable ≤ new.syncable

-- it is cut to a size; nothing more is synced
pub record IsCutTo (size : ℕ) (old new : LogFileOf) : Type 0 where
  pub content_is : new.content ≡ take size old.content
  pub synced_in : min size old.synced ≤ new.synced

-- bytes from a place on, so many, are written again: if a sync would reach all bytes before that place, it
-- reaches these too
abbrev pub WritesAgain : ℕ → ℕ → LogFileOf → LogFileOf → Type 0
WritesAgain at size old new = at ≤ old.syncable → at + size ≤ new.syncable

-- it has been cut to a size, all that is left was written again, and then it was synced
pub record IsTruncated (size : ℕ) (old new : LogFileOf) : Type 0 where
  pub content_is : new.content ≡ take size old.content
  pub synced_in : length new.content ≤ new.synced
  pub syncable_in : length new.content ≤ new.syncable

-- that failed: it has been cut to a size or not, and what was synced of the bytes left still is
abbrev pub MayBeTruncated : ℕ → LogFileOf → LogFileOf → Type 0
MayBeTruncated size old new = KeepsSynced old new ⊎ IsCutTo size old new

-- at most so many bytes were appended to a buffer
abbrev pub AppendsUpTo : ℕ → List ℕ → List ℕ → Type 0
AppendsUpTo most old new = (bytes : List ℕ) × (length bytes ≤ most) × (new ≡ old ++ bytes)

-- whether the device has failed by now, after a read
abbrev pub failed_after_read : Bool → Result (Unit {0}) ReadFault → Bool
failed_after_read before (Ok done) = before
failed_after_read before (Err Device) = true
failed_after_read before (Err OutOfMemory) = before

-- why a call answers Device: the device has failed, or the file has more bytes than it is read
abbrev pub HasFailed : Bool → Type 0 → List ℕ → Type 0
HasFailed failed Honest content = (failed ≡ true) ⊎ (Honest → READS ≤ length content)

-- a file stays as it is: as honest as it was, and an honest one has the same bytes, of which a crash leaves no
-- fewer, and a sync reaches no fewer
pub record Stays {F : Type 0} (IsHonest : F → Type 0) (model : F → LogFileOf) (old new : F) : Type 0 where
  pub honest : IsHonest old ↔ IsHonest new
  pub content_is : IsHonest old → (model new).content ≡ (model old).content
  pub synced_in : IsHonest old → (model old).synced ≤ (model new).synced
  pub syncable_in : IsHonest old → (model old).syncable ≤ (model new).syncable
