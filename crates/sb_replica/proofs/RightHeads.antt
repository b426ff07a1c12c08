-- Bytes without a fault begin well.
use Rattle.std.proofs.Common.{◌≡◌, ℕ, ℤ, Option, Some, None, List, refl}
use Rattle.std.specs.Option.{option_or}
use Rattle.sb_checkpoint.specs.Reading.{first_fault, head_fault}
use Rattle.sb_checkpoint.specs.declared.fault.CheckpointFault.{CheckpointFault}

first_is_none : (first later : Option CheckpointFault) → option_or first later ≡ None → first ≡ None
first_is_none None later e = refl
first_is_none (Some fault) later e = absurd cc

pub right_head : (bytes : List ℕ) (customers : ℕ) (opening_total : ℤ)
    → first_fault bytes (record { customers = customers; opening_total = opening_total }) ≡ None → head_fault bytes customers ≡ None
unfolding first_fault
right_head bytes customers opening_total e = first_is_none (head_fault bytes customers) _ e
