-- The faults that parts of a checkpoint are refused with.
use Rattle.std.specs.Prelude.{◌≡◌, Option, Some}
use Rattle.sb_checkpoint.specs.declared.fault.CheckpointFault.{CheckpointFault}
use Rattle.sb_checkpoint.specs.declared.fault.CheckpointFault.TheVariants.{OutOfMemory}

-- a fault that was found, or refused memory in its place
abbrev pub IsFaultOf : Option CheckpointFault → CheckpointFault → Type 0
IsFaultOf found OutOfMemory = Unit {0}
IsFaultOf found fault = found ≡ Some fault
