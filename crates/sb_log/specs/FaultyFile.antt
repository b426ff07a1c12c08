-- A file whose device fails at one call.
use Rattle.std.specs.Prelude.{ℕ, Bool}
use Rattle.sb_log.specs.MemoryFile.{MemoryFileOf}

-- the file in memory; the call at which the device fails; what an append or a sync leaves then; and whether
-- the device has failed
pub record FaultyFileOf : Type 0 where
  pub inner : MemoryFileOf
  pub at : ℕ
  pub kept : ℕ
  pub failed : Bool
