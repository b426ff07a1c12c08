-- What is printed of a checkpoint.
use Rattle.std.specs.Prelude.{◌≡◌, ℕ, Option, Some, Err, List, IfSome}
use Rattle.sb_rows.specs.declared.opening.Opening.{Opening as AnyOpening}
use Rattle.sb_checkpoint.specs.Reading.{first_fault}
use Rattle.checkpoint_text.specs.Listing.{IsCheckpointListing, IsOpeningListing}
use Rattle.checkpoint_text.specs.Origins.{opening_origin, stated_origin}
use Rattle.checkpoint_text.specs.declared.listing.CheckpointListing.TheVariants.{Balances, Check}
use Rattle.bank_server.specs.declared.fault.RunFault.{RunFault}
use Rattle.bank_server.specs.declared.fault.RunFault.TheVariants.{Input, Device, OutOfMemory}
use Rattle.bank_service.specs.Opening.{IsOpeningOf, whole_opening_of}
use Rattle.bank_program.specs.declared.fault.ProgramFault.{ProgramFault}
use Rattle.bank_program.specs.declared.fault.ProgramFault.TheVariants.{Run, Checkpoint}
use Rattle.program_words.specs.declared.words.checkpoint.CheckpointView.{CheckpointView}
use Rattle.program_words.specs.declared.words.checkpoint.CheckpointView.TheVariants as view

-- a device failed, or memory was refused
abbrev pub IsReadingFault : RunFault → Type 0
IsReadingFault Device = Unit {0}
IsReadingFault OutOfMemory = Unit {0}
IsReadingFault other = ⊥

-- this text is what is to be shown of a checkpoint in a file, if it is known what the files have: its listing, or its
-- rows by the names of the opening in another file
abbrev pub ShowsCheckpoint : (List ℕ → Option (List ℕ)) → List ℕ → CheckpointView → List ℕ → Type 0
ShowsCheckpoint content file view.Balances text =
    IfSome (content file) (λ bytes. IsCheckpointListing Balances bytes text)
ShowsCheckpoint content file view.Check text = IfSome (content file) (λ bytes. IsCheckpointListing Check bytes text)
ShowsCheckpoint content file (view.Opening name) text =
    IfSome (content file) (λ bytes. IfSome (content name.now) (λ names. (opening : AnyOpening)
    × IsOpeningOf (whole_opening_of names) opening × IsOpeningListing opening bytes text))

-- why nothing is shown: this is the first fault of the file's bytes, as a checkpoint of the bank that they state or of
-- the opening's; or of the opening's lines; or a device failed, or memory was refused
abbrev pub IsShowFault : (List ℕ → Option (List ℕ)) → List ℕ → CheckpointView → ProgramFault → Type 0
IsShowFault content file view.Balances (Checkpoint fault) =
    IfSome (content file) (λ bytes. first_fault bytes (stated_origin bytes) ≡ Some fault)
IsShowFault content file view.Check (Checkpoint fault) =
    IfSome (content file) (λ bytes. first_fault bytes (stated_origin bytes) ≡ Some fault)
IsShowFault content file (view.Opening name) (Checkpoint fault) =
    IfSome (content file) (λ bytes. IfSome (content name.now) (λ names. (opening : AnyOpening)
    × IsOpeningOf (whole_opening_of names) opening × (first_fault bytes (opening_origin opening.columns) ≡ Some fault)))
IsShowFault content file (view.Opening name) (Run (Input line fault)) =
    IfSome (content name.now) (λ names. whole_opening_of names ≡ Err (line, fault))
IsShowFault content file view (Run Device) = Unit {0}
IsShowFault content file view (Run OutOfMemory) = Unit {0}
IsShowFault content file view other = ⊥
