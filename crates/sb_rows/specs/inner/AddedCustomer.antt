-- How one customer of an opening is added.
use Rattle.std.specs.Prelude.{◌≡◌, ℕ, ◌+◌, Result, Ok, Err, List, [], ◌∷◌, ◌++◌, length}
use Rattle.sb_rows.specs.Customer.{Customer}
use Rattle.sb_rows.specs.Opening.{customer_of}
use Rattle.sb_rows.specs.Text.{words}
use Rattle.sb_rows.specs.declared.fault.OpeningFault.{OpeningFault}
use Rattle.sb_rows.specs.declared.fault.OpeningFault.TheVariants.{Line, OutOfMemory}

-- the customer of a line is added after those before, or the result is the line's number and first
-- fault; memory may be refused instead
abbrev pub AddsCustomer : List Customer → List ℕ → List Customer → Result (Unit {0}) OpeningFault → Type 0
AddsCustomer before line after (Ok _) =
    (customer : Customer) × (customer_of before (words line) ≡ Ok customer) × (after ≡ before ++ customer ∷ [])
AddsCustomer before line after (Err (Line number fault)) =
    (number ≡ length before + 1) × (customer_of before (words line) ≡ Err fault)
AddsCustomer before line after (Err OutOfMemory) = Unit {0}
