-- What is kept of a log.
use Rattle.std.specs.Prelude.{◌≡◌, ℕ, Bool, true, Option, List, ◌++◌}
use Rattle.sb_calls.specs.declared.ask.Key.{Key}
use Rattle.sb_calls.specs.declared.call.Call.{Call}
use Rattle.sb_log.specs.declared.log_fault.LogFault.{LogFault}
use Rattle.sb_log.specs.declared.log_fault.LogFault.TheVariants.{Device, OutOfMemory}

-- keeping may fail, and the keeper has failed, or memory was refused
abbrev pub IsKeepFault : Bool → Bool → LogFault → Type 0
IsKeepFault fails failed Device = (fails ≡ true) × (failed ≡ true)
IsKeepFault fails failed OutOfMemory = fails ≡ true
IsKeepFault fails failed other = ⊥

-- what contracts know of a keeper
pub record KeeperModel (K : Type 0) : Type 1 where
  -- these asks are kept: a log that is opened again, after any stop, begins with them
  pub Keeps : K → List (Key × Call) → Type 0
  -- the opening text of the file in which they are kept, if there is one
  pub opening : K → Option (List ℕ)
  -- whether keeping may fail
  pub fails : Bool
  -- whether it has failed, and keeps nothing more
  pub has_failed : K → Bool

module _ {K : Type 0} (model : KeeperModel K) where
  -- a beginning of the log is kept
  abbrev pub KeepsBeginning : K → List (Key × Call) → Type 0
  KeepsBeginning keeper log = (kept : List (Key × Call)) × model.Keeps keeper kept
      × (rest : List (Key × Call)) × (log ≡ kept ++ rest)

  -- whatever beginning of the old log was kept is kept on, as a beginning of the new log; there may
  -- be more
  abbrev pub KeepsOn : K → List (Key × Call) → K → List (Key × Call) → Type 0
  KeepsOn old old_log new new_log = (kept rest : List (Key × Call)) → model.Keeps old kept → old_log ≡ kept ++ rest
      → (more : List (Key × Call)) × model.Keeps new (kept ++ more) × (behind : List (Key × Call))
      × (new_log ≡ (kept ++ more) ++ behind)

  -- a keeper goes on: what it kept it keeps on, in a file of the same opening, and once it has failed
  -- it has failed for good
  pub record KeeperGoesOn (old : K) (old_log : List (Key × Call)) (new : K) (new_log : List (Key × Call)) : Type 0 where
    pub keeps_on : KeepsOn old old_log new new_log
    pub same_opening : model.opening new ≡ model.opening old
    pub failed : model.has_failed old ≡ true → model.has_failed new ≡ true
