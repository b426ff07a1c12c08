-- The faults of a restart and of an adoption by that of their checkpoint.
use Rattle.sb_checkpoint.specs.declared.fault.CheckpointFault.{CheckpointFault}
use Rattle.sb_checkpoint.specs.declared.fault.CheckpointFault.TheVariants as checkpoint
use Rattle.sb_replica.specs.declared.fault.AdoptFault.{AdoptFault}
use Rattle.sb_replica.specs.declared.fault.AdoptFault.TheVariants as adopt
use Rattle.sb_replica.specs.declared.fault.RestartFault.{RestartFault}
use Rattle.sb_replica.specs.declared.fault.RestartFault.TheVariants as restart

-- a restart's fault for a fault of the bytes
abbrev pub restart_fault_of : CheckpointFault → RestartFault
restart_fault_of checkpoint.OutOfMemory = restart.OutOfMemory
restart_fault_of fault = restart.BadCheckpoint fault

-- an adoption's fault for a fault of the bytes
abbrev pub adopt_fault_of : CheckpointFault → AdoptFault
adopt_fault_of checkpoint.OutOfMemory = adopt.OutOfMemory
adopt_fault_of fault = adopt.BadCheckpoint fault
