-- What a worker has in hand, compared with the whole log run one by one.
use Rattle.std.specs.Prelude.{◌≡◌, ℕ, suc, ℤ, Some, List, slice_get}
use Rattle.sb_calls.specs.Behaviour.{declared_cowns, effect_of}
use Rattle.sb_calls.specs.SerialRun.{inputs_of, contents_after_first}
use Rattle.sb_calls.specs.declared.op.Op.{Op}
use Rattle.cown_board.specs.Job.{JobOf}

-- given what the cowns contained at the opening, and all ops of the log
module _ (opening : List ℤ) (log : List Op) where
  -- the job is of an op of the log, with the inputs that the log before that op leaves
  pub record IsJobOfLog (job : JobOf Op) : Type 0 where
    pub place : ℕ
    pub number : job.number ≡ suc place
    pub behaviour : slice_get log place ≡ Some job.behaviour
    pub inputs : job.inputs
        ≡ inputs_of declared_cowns effect_of
        (contents_after_first declared_cowns effect_of opening log place) job.behaviour
