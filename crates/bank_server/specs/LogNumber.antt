-- The numbers of a log.
use Rattle.std.specs.Prelude.{ℕ, ◌<◌, ◌≤◌}
use Rattle.sb_calls.specs.declared.call.TheConstants.{LOG_CALLS}

-- from 1 to as many as a log takes
pub record IsLogNumber (number : ℕ) : Type 0 where
  pub positive : 0 < number
  pub limit : number ≤ LOG_CALLS
