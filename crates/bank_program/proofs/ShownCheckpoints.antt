-- What is shown of a checkpoint, by what the files have, if that is known.
use Rattle.std.proofs.Common.{◌≡◌, Bor, ℕ, Option, Some, None, List, subst}
use Rattle.std.specs.Prelude.{IfSome}
use Rattle.sb_rows.specs.declared.opening.Opening.{Opening as AnyOpening}
use Rattle.checkpoint_text.specs.Faults.{IsCheckpointListFault}
use Rattle.checkpoint_text.specs.Origins.{opening_origin}
use Rattle.checkpoint_text.specs.declared.fault.CheckpointListFault.{CheckpointListFault}
use Rattle.checkpoint_text.specs.declared.fault.CheckpointListFault.TheVariants.{Checkpoint, Device, OutOfMemory}
use Rattle.bank_service.specs.Opening.{IsOpeningOf, whole_opening_of}
use Rattle.bank_program.specs.CheckpointPrints.{IsShowFault}
use Rattle.bank_program.specs.inner.ListingFaults.{fault_of_listing}
use Rattle.program_words.specs.declared.words.checkpoint.CheckpointView.TheVariants as view

-- what holds of the bytes that were read holds of those that the file has
pub if_known : {X : Type 0} (known : Option X) (read : X) (P : X → Type 0) → IfSome known (λ x. read ≡ x) → P read → IfSome known P
if_known None read P same holds = tt
if_known (Some x) read P same holds = subst P same holds

-- why nothing is shown by the names of an opening that was read
pub names_fault : (content : List ℕ → Option (List ℕ)) (file : List ℕ) (name : Bor (List ℕ)) (bytes names : List ℕ) (opening : AnyOpening)
    (fault : CheckpointListFault)
    → IfSome (content file) (λ x. bytes ≡ x) → IfSome (content name.now) (λ x. names ≡ x) → IsOpeningOf (whole_opening_of names) opening
    → IsCheckpointListFault bytes (opening_origin opening.columns) fault → IsShowFault content file (view.Opening name) (fault_of_listing fault)
names_fault content file name bytes names opening (Checkpoint fault) has_bytes has_names read is =
    if_known (content file) bytes _ has_bytes (if_known (content name.now) names _ has_names (opening, read, is))
names_fault content file name bytes names opening Device has_bytes has_names read is = tt
names_fault content file name bytes names opening OutOfMemory has_bytes has_names read is = tt
