-- What a fault of listing a checkpoint means.
use Rattle.std.specs.Prelude.{◌≡◌, ℕ, Option, Some, None, List}
use Rattle.std.specs.Io.KnownBytes.{Keeps}
use Rattle.sb_checkpoint.specs.Checkpoint.{Origin}
use Rattle.sb_checkpoint.specs.Reading.{first_fault, head_fault}
use Rattle.checkpoint_text.specs.declared.fault.CheckpointListFault.{CheckpointListFault}
use Rattle.checkpoint_text.specs.declared.fault.CheckpointListFault.TheVariants.{Checkpoint, Device, OutOfMemory}

-- bytes that are listed as a checkpoint of this bank have this first fault; or they have none, and a write failed;
-- or memory was refused, after the head was found right
abbrev pub IsCheckpointListFault : List ℕ → Origin → CheckpointListFault → Type 0
IsCheckpointListFault bytes origin (Checkpoint fault) = first_fault bytes origin ≡ Some fault
IsCheckpointListFault bytes origin Device = first_fault bytes origin ≡ None
IsCheckpointListFault bytes origin OutOfMemory = head_fault bytes origin.customers ≡ None

-- unless a write failed, nothing was written
abbrev pub LeavesCheckpointListing : CheckpointListFault → Option (List ℕ) → Option (List ℕ) → Type 0
LeavesCheckpointListing (Checkpoint fault) old new = Keeps old new
LeavesCheckpointListing Device old new = Unit {0}
LeavesCheckpointListing OutOfMemory old new = Keeps old new
