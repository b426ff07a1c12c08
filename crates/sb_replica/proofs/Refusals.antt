-- A refused checkpoint, as the fault of a restart or of an adoption.
use Rattle.std.proofs.Common.{ℕ, Some, List, refl}
use Rattle.sb_checkpoint.specs.Checkpoint.{Origin}
use Rattle.sb_checkpoint.specs.Reading.{IsRefusedBy}
use Rattle.sb_checkpoint.specs.declared.fault.CheckpointFault.{CheckpointFault}
use Rattle.sb_checkpoint.specs.declared.fault.CheckpointFault.TheVariants.{BadMagic, Short, WrongCustomers, OutOfRange, NegativeSavings, WrongTotal, WrongOpening, BadReply, Long, OutOfMemory}
use Rattle.sb_replica.specs.Restarting.{IsRefusalOf}
use Rattle.sb_replica.specs.States.{IsAdoptFaultOf}
use Rattle.sb_replica.specs.inner.FaultConversions.{adopt_fault_of, restart_fault_of}

pub refusal_of : (origin : Origin) (bytes : List ℕ) (fault : CheckpointFault) → IsRefusedBy bytes origin fault
    → IsRefusalOf origin (Some bytes) (restart_fault_of fault)
refusal_of origin bytes OutOfMemory h = h
refusal_of origin bytes BadMagic h = (bytes, refl, (λ e. cc), h)
refusal_of origin bytes Short h = (bytes, refl, (λ e. cc), h)
refusal_of origin bytes WrongCustomers h = (bytes, refl, (λ e. cc), h)
refusal_of origin bytes OutOfRange h = (bytes, refl, (λ e. cc), h)
refusal_of origin bytes NegativeSavings h = (bytes, refl, (λ e. cc), h)
refusal_of origin bytes WrongTotal h = (bytes, refl, (λ e. cc), h)
refusal_of origin bytes WrongOpening h = (bytes, refl, (λ e. cc), h)
refusal_of origin bytes BadReply h = (bytes, refl, (λ e. cc), h)
refusal_of origin bytes Long h = (bytes, refl, (λ e. cc), h)

pub adopt_refusal : (origin : Origin) (bytes : List ℕ) (fault : CheckpointFault) → IsRefusedBy bytes origin fault
    → IsAdoptFaultOf origin bytes (adopt_fault_of fault)
adopt_refusal origin bytes OutOfMemory h = h
adopt_refusal origin bytes BadMagic h = ((λ e. cc), h)
adopt_refusal origin bytes Short h = ((λ e. cc), h)
adopt_refusal origin bytes WrongCustomers h = ((λ e. cc), h)
adopt_refusal origin bytes OutOfRange h = ((λ e. cc), h)
adopt_refusal origin bytes NegativeSavings h = ((λ e. cc), h)
adopt_refusal origin bytes WrongTotal h = ((λ e. cc), h)
adopt_refusal origin bytes WrongOpening h = ((λ e. cc), h)
adopt_refusal origin bytes BadReply h = ((λ e. cc), h)
adopt_refusal origin bytes Long h = ((λ e. cc), h)
