-- The asks that a log's file was told.
use Rattle.std.specs.Prelude.{◌≡◌, ◌≢◌, ◌⊎◌, ℕ, max, Bool, false, true, List, [], length, take}
use Rattle.sha2.specs.declared.Sha256.{Sha256}
use Rattle.sha2.specs.Hashers.{Holds256}
use Rattle.sb_calls.specs.declared.ask.Key.{Key}
use Rattle.sb_calls.specs.declared.call.Call.{Call}
use Rattle.sb_log.specs.Lives.{Event, HappensAll, Life, newborn}
use Rattle.sb_log.specs.LogCalls.{DurableLogOf, IsLogOf}
use Rattle.sb_log.specs.LogFiles.{LogFileOf}
use Rattle.sb_log.specs.Reading.{Begins}
use Rattle.sb_log.specs.declared.log_end.LogEnd.{LogEnd}
use Rattle.sb_log.specs.declared.log_fault.LogFault.{LogFault}
use Rattle.sb_log.specs.declared.log_fault.LogFault.TheVariants.{Device, OutOfMemory}
use Rattle.sb_ask_log.specs.LogFile.{AreBodiesOf, log_bytes}
use Rattle.sb_ask_log.specs.Recovery.{ReadsAskLog}

-- a log of asks: the log of its file, its opening text, the hasher of what was told, and how many asks
-- were told
pub record AskLogOf (F : Type 0) : Type 0 where
  pub log : DurableLogOf F
  pub text : List ℕ
  pub hasher : Sha256
  pub saved : ℕ

-- after some life the file is so: the log of these asks was told, and unless a call failed no more was given
-- to it
pub record Tells (now : LogFileOf) (failed : Bool) (hasher : Sha256) (text : List ℕ) (told : List (Key × Call))
    : Type 0 where
  pub l : Life
  pub events : List Event
  pub lived : HappensAll newborn events l
  pub file : IsLogOf now failed hasher l
  pub told_are : AreBodiesOf l.told text told
  pub given : List (Key × Call)
  pub given_are : AreBodiesOf l.given text given
  pub only : failed ≡ false → given ≡ told

-- wherever the machine stops, with so many bytes left: what is read of the file then is a log of the
-- same opening, which begins with all asks that were told, at their places
abbrev pub RecoversWhatItTold : Type 0
RecoversWhatItTold = (now : LogFileOf) (failed : Bool) (hasher : Sha256) (text : List ℕ) (told : List (Key × Call))
    → Tells now failed hasher text told → (kept : ℕ) (read_text : List ℕ) (read : List (Key × Call)) (rest : List ℕ)
    → ReadsAskLog (take (max now.synced kept) now.content) read_text read rest
    → (read_text ≡ text) × Begins told read

-- the rest of a log isn't saved: the device failed, now or before, and the log has failed then; or memory was
-- refused
abbrev pub FailsToSave : {F : Type 0} → (F → Bool) → AskLogOf F → LogFault → AskLogOf F → Type 0
FailsToSave has_failed old Device new =
    (new.log.failed ≡ true) × ((old.log.failed ≡ true) ⊎ (has_failed new.log.file ≡ true))
FailsToSave has_failed old OutOfMemory new = Unit {0}
FailsToSave has_failed old other new = ⊥

module _ {F : Type 0} (IsHonest : F → Type 0) (model : F → LogFileOf) where
  -- a log that ends so can be gone on with: it has an opening, its hasher holds these asks, and an honest
  -- file was told them
  pub record IsResumable (file : F) (end : LogEnd) (text : List ℕ) (asks : List (Key × Call)) : Type 0 where
    pub some : text ≢ []
    pub holds : Holds256 end.hasher (log_bytes text asks)
    pub told : IsHonest file → Tells (model file) false end.hasher text asks

  -- it keeps these asks: its hasher and its count are theirs, its log goes on behind them unless a
  -- call failed, and an honest file was told them
  pub record KeepsAsks (log : AskLogOf F) (asks : List (Key × Call)) : Type 0 where
    pub saved_is : log.saved ≡ length asks
    pub holds : Holds256 log.hasher (log_bytes log.text asks)
    pub goes_on : log.log.failed ≡ false → Holds256 log.log.hasher (log_bytes log.text asks)
    pub told : IsHonest log.log.file → Tells (model log.log.file) log.log.failed log.log.hasher log.text asks
