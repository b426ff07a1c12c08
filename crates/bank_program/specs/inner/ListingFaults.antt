-- The faults of listing a checkpoint, as faults of the program.
use Rattle.bank_server.specs.declared.fault.RunFault.TheVariants.{Device, OutOfMemory}
use Rattle.bank_program.specs.declared.fault.ProgramFault.{ProgramFault}
use Rattle.bank_program.specs.declared.fault.ProgramFault.TheVariants.{Run, Checkpoint}
use Rattle.checkpoint_text.specs.declared.fault.CheckpointListFault.{CheckpointListFault}
use Rattle.checkpoint_text.specs.declared.fault.CheckpointListFault.TheVariants as listing

-- damage is the checkpoint's, and all else is of a run too
abbrev pub fault_of_listing : CheckpointListFault → ProgramFault
fault_of_listing (listing.Checkpoint fault) = Checkpoint fault
fault_of_listing listing.Device = Run Device
fault_of_listing listing.OutOfMemory = Run OutOfMemory
