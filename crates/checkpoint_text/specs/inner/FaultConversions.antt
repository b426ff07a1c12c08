-- The fault of a listing by that of reading.
use Rattle.sb_checkpoint.specs.declared.fault.CheckpointFault.{CheckpointFault}
use Rattle.sb_checkpoint.specs.declared.fault.CheckpointFault.TheVariants as checkpoint
use Rattle.checkpoint_text.specs.declared.fault.CheckpointListFault.{CheckpointListFault}
use Rattle.checkpoint_text.specs.declared.fault.CheckpointListFault.TheVariants as list

-- memory that is refused is no fault of the bytes
abbrev pub list_fault_of : CheckpointFault → CheckpointListFault
list_fault_of checkpoint.OutOfMemory = list.OutOfMemory
list_fault_of fault = list.Checkpoint fault
