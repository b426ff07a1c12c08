-- What the calls of a log do, as events of its file's life.
use Rattle.std.specs.Prelude.{◌≡◌, ◌⊎◌, ℕ, ◌≤◌, Bool, false, true, not, Result, Ok, Err, List, [], ◌∷◌, ◌++◌, length}
use Rattle.sha2.specs.declared.Sha256.{Sha256}
use Rattle.sha2.specs.Hashers.{Holds256}
use Rattle.sb_log.specs.Lives.{Append, AppendFails, Cut, Happens, HappensAll, Life, ReadBack, Sync, SyncFails, newborn}
use Rattle.sb_log.specs.LogFiles.{LogFileOf}
use Rattle.sb_log.specs.Reading.{IsTorn, ReadsRecords}
use Rattle.sb_log.specs.Records.{IsBody, body_bytes, record_after, records}
use Rattle.sb_log.specs.Replaying.{ReplaysAll}
use Rattle.sb_log.specs.declared.log_end.LogEnd.{LogEnd}
use Rattle.sb_log.specs.declared.log_fault.LogFault.{LogFault}
use Rattle.sb_log.specs.declared.log_fault.LogFault.TheVariants.{Damaged, Device, InUse, OutOfMemory}

-- a log: its file, the hasher of its bodies, and whether a call failed
pub record DurableLogOf (F : Type 0) : Type 0 where
  pub file : F
  pub hasher : Sha256
  pub failed : Bool

-- a life so far: the file has these bytes, and at least what is synced in the life; while the life is healthy, a
-- sync reaches all of them
pub record IsFileOf (file : LogFileOf) (l : Life) : Type 0 where
  pub content_is : l.content ≡ file.content
  pub synced_in : l.synced ≤ file.synced
  pub syncable_in : l.healthy ≡ true → length file.content ≤ file.syncable

-- the same of a log: it is healthy unless a call failed, and then its hasher holds all that was given
pub record IsLogOf (now : LogFileOf) (failed : Bool) (hasher : Sha256) (l : Life) : Type 0 where
  pub file : IsFileOf now l
  pub healthy_is : l.healthy ≡ not failed
  pub holds : failed ≡ false → Holds256 hasher (body_bytes l.given)

-- what an append of a body does, by its answer
abbrev pub DoesAppend : Life → List ℕ → Result (Unit {0}) LogFault → Life → Type 0
DoesAppend l body (Ok done) m = Happens l (Append body) m
-- the device failed now, or a call failed before
DoesAppend l body (Err Device) m = ((kept : ℕ) × Happens l (AppendFails body kept) m) ⊎ ((l.healthy ≡ false) × (m ≡ l))
DoesAppend l body (Err other) m = ⊥

-- what making a log with this first body does, by its answer
abbrev pub DoesCreate : List ℕ → Result LogEnd LogFault → Life → Type 0
DoesCreate body (Ok end) l = HappensAll newborn (Append body ∷ Sync ∷ []) l
-- the device failed at the append or at the sync
DoesCreate body (Err Device) l = ((kept : ℕ) × HappensAll newborn (AppendFails body kept ∷ []) l)
    ⊎ HappensAll newborn (Append body ∷ SyncFails ∷ []) l
DoesCreate body (Err other) l = ⊥

-- what a sync does, by its answer
abbrev pub DoesSync : Life → Result (Unit {0}) LogFault → Life → Type 0
DoesSync l (Ok done) m = Happens l Sync m
DoesSync l (Err Device) m = Happens l SyncFails m ⊎ ((l.healthy ≡ false) × (m ≡ l))
DoesSync l (Err other) m = ⊥

module _ {T : Type 0} (replays : T → List ℕ → T → Type 0) (refuses : T → List ℕ → Type 0) where
  -- these records were replayed, and this rest, which is torn, ends the log
  pub record ReadsTo (content : List ℕ) (old : T) (bodies : List (List ℕ)) (rest : List ℕ) (end : LogEnd) (new : T)
      : Type 0 where
    pub reads : ReadsRecords content bodies rest
    pub torn : IsTorn rest
    pub replayed : ReplaysAll replays old bodies new
    pub records_is : end.records ≡ length (records bodies)
    pub torn_is : end.torn ≡ length rest
    pub holds : Holds256 end.hasher (body_bytes bodies)

  -- behind these records, which were replayed, stands something else: a rest that isn't torn, or the
  -- record of a body that is refused
  pub record IsDamagedAt (content : List ℕ) (old : T) (byte behind : ℕ) : Type 0 where
    pub bodies : List (List ℕ)
    pub rest : List ℕ
    pub whole : content ≡ records bodies ++ rest
    pub byte_is : byte ≡ length (records bodies)
    pub behind_is : behind ≡ length rest
    pub mid : T
    pub replayed : ReplaysAll replays old bodies mid
    pub why : (ReadsRecords content bodies rest × (IsTorn rest → ⊥))
        ⊎ ((body more : List ℕ) × IsBody body × (rest ≡ record_after (body_bytes bodies) body ++ more)
        × refuses mid body)

  -- what reading a log answers
  abbrev pub ReadsLog : List ℕ → T → Result LogEnd LogFault → T → Type 0
  ReadsLog content old (Ok end) new = (bodies : List (List ℕ)) × (rest : List ℕ)
      × ReadsTo content old bodies rest end new
  ReadsLog content old (Err (Damaged byte behind)) new = IsDamagedAt content old byte behind
  ReadsLog content old (Err Device) new = Unit {0}
  ReadsLog content old (Err OutOfMemory) new = Unit {0}
  ReadsLog content old (Err InUse) new = ⊥

  -- what recovering a log does, by its answer
  abbrev pub Recovers : Life → T → Result LogEnd LogFault → T → Life → Type 0
  Recovers l old (Ok end) new m = (bodies : List (List ℕ)) × (rest : List ℕ)
      × ReadsTo l.content old bodies rest end new × Happens l (ReadBack bodies rest) m
  Recovers l old (Err (Damaged byte behind)) new m = IsDamagedAt l.content old byte behind × (m ≡ l)
  Recovers l old (Err InUse) new m = ⊥
  -- what follows the records may have been cut off, and the file has to be recovered again
  Recovers l old (Err other) new m = (n : Life) × (m ≡ record n { healthy = false })
      × ((n ≡ l) ⊎ ((bodies : List (List ℕ)) × (rest : List ℕ) × Happens l (Cut bodies rest) n))
