-- The bank that a checkpoint is read for.
use Rattle.std.specs.Prelude.{◌≡◌, ◌↔◌, ℕ, ◌<◌, min, None, List, length}
use Rattle.std.specs.List.{All}
use Rattle.sb_rows.specs.Balances.{Balances}
use Rattle.sb_rows.specs.declared.columns.TheConstants.{CUSTOMERS}
use Rattle.lane_audit.specs.Audit.{balances_total}
use Rattle.sb_checkpoint.specs.Checkpoint.{CheckpointOf, Origin, SpellsFor}
use Rattle.sb_checkpoint.specs.Reading.{first_fault, stated_customers, stated_opening}

-- the bank that bytes state; no bank has more customers than the greatest
abbrev pub stated_origin : List ℕ → Origin
stated_origin bytes = record {
  customers = min (stated_customers bytes) CUSTOMERS;
  opening_total = stated_opening bytes;
}

-- the bank with these opening balances
abbrev pub opening_origin : Balances → Origin
opening_origin opening = record {
  customers = length opening.savings;
  opening_total = balances_total opening;
}

-- bytes have no fault for the bank that they state exactly if they spell a checkpoint of some bank
abbrev pub FaultlessIfSpelled : Type 0
FaultlessIfSpelled = (bytes : List ℕ) → All (λ byte. byte < 256) bytes
    → (first_fault bytes (stated_origin bytes) ≡ None)
    ↔ ((origin : Origin) × (checkpoint : CheckpointOf) × SpellsFor origin checkpoint bytes)
