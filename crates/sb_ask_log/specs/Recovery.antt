-- What is read of a log's file.
use Rattle.std.specs.Prelude.{◌≡◌, ◌⊎◌, ℕ, Bool, true, List, [], ◌∷◌, ◌++◌, length, take}
use Rattle.sb_calls.specs.declared.ask.Key.{Key}
use Rattle.sb_calls.specs.declared.call.Call.{Call}
use Rattle.sb_log.specs.LogFiles.{KeepsSynced, LogFileOf}
use Rattle.sb_log.specs.Reading.{IsTorn, ReadsRecords}
use Rattle.sb_log.specs.Records.{IsBody, body_bytes, record_after, records}
use Rattle.sb_log.specs.declared.log_fault.LogFault.{LogFault}
use Rattle.sb_log.specs.declared.log_fault.LogFault.TheVariants.{Damaged, Device, InUse, OutOfMemory}
use Rattle.sb_ask_log.specs.LogFile.{AreBodiesOf, log_magic}

-- bodies that are read: none, and then there is no opening and no ask, or those of a log
abbrev pub AreRead : List (List ℕ) → List ℕ → List (Key × Call) → Type 0
AreRead [] text log = (text ≡ []) × (log ≡ [])
AreRead (body ∷ bodies) text log = AreBodiesOf (body ∷ bodies) text log

-- the longest log that these bytes begin with: its opening, its asks, and a rest that is torn; without
-- a whole first record there is no log, and the opening is empty
pub record ReadsAskLog (content : List ℕ) (text : List ℕ) (log : List (Key × Call)) (rest : List ℕ) : Type 0 where
  pub bodies : List (List ℕ)
  pub reads : ReadsRecords content bodies rest
  pub torn : IsTorn rest
  pub are : AreRead bodies text log

-- at this byte the longest log ends, and what stands there up to the file's end isn't torn: no whole
-- record, or the record of a body that no log has there
pub record IsDamagedAskLog (content : List ℕ) (byte behind : ℕ) : Type 0 where
  pub bodies : List (List ℕ)
  pub rest : List ℕ
  pub text : List ℕ
  pub log : List (Key × Call)
  pub whole : content ≡ records bodies ++ rest
  pub are : AreRead bodies text log
  pub byte_is : byte ≡ length (records bodies)
  pub behind_is : behind ≡ length rest
  pub why : (ReadsRecords content bodies rest × (IsTorn rest → ⊥))
      ⊎ ((body more : List ℕ) × IsBody body × (rest ≡ record_after (body_bytes bodies) body ++ more)
      × ((longer_text : List ℕ) (longer : List (Key × Call)) → AreRead (bodies ++ body ∷ []) longer_text longer → ⊥))

-- the log is damaged, or the device failed, or memory was refused
abbrev pub IsReadFault : List ℕ → LogFault → Type 0
IsReadFault content (Damaged byte behind) = IsDamagedAskLog content byte behind
IsReadFault content InUse = ⊥
IsReadFault content other = Unit {0}

-- the file has its bytes still, or what followed the whole records was torn and is cut off
abbrev pub IsSameOrCut : List ℕ → List ℕ → Type 0
IsSameOrCut old new = (new ≡ old)
    ⊎ ((bodies : List (List ℕ)) × (rest : List ℕ) × ReadsRecords old bodies rest × IsTorn rest × (new ≡ records bodies))

-- a beginning of the record of an opening is there, also the whole or nothing
abbrev pub HasPartOfOpening : List ℕ → List ℕ → Type 0
HasPartOfOpening text content = (kept : ℕ) × (content ≡ take kept (record_after [] (log_magic ++ text)))

-- an honest file of these bytes is recovered: what is read of them is this log, the torn rest behind it is
-- cut off, and without an opening nothing is left
pub record RecoversAsks (old text : List ℕ) (log : List (Key × Call)) (torn : ℕ) (new : List ℕ) : Type 0 where
  pub rest : List ℕ
  pub read : ReadsAskLog old text log rest
  pub torn_is : torn ≡ length rest
  pub cut : old ≡ new ++ rest
  pub empty : text ≡ [] → (new ≡ []) × (log ≡ [])

-- an honest file isn't recovered: it is damaged, and stays as it is; or its device failed or memory was refused,
-- and it stays or its torn rest is cut off
abbrev pub FailsToRecover : LogFileOf → LogFault → LogFileOf → Type 0
FailsToRecover old (Damaged byte behind) new = IsDamagedAskLog old.content byte behind × KeepsSynced old new
FailsToRecover old Device new = IsSameOrCut old.content new.content
FailsToRecover old OutOfMemory new = IsSameOrCut old.content new.content
FailsToRecover old InUse new = ⊥

-- no log with this opening is made in an empty file: its device failed, or memory was refused, and an honest
-- file has a beginning of the opening's record then
abbrev pub FailsToMake : List ℕ → LogFault → Bool → Type 0 → List ℕ → Type 0
FailsToMake text Device failed Honest new = (failed ≡ true) × (Honest → HasPartOfOpening text new)
FailsToMake text OutOfMemory failed Honest new = Honest → HasPartOfOpening text new
FailsToMake text other failed Honest new = ⊥
