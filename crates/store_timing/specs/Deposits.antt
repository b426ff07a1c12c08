-- What a bank's deposits add to its log, and its total after it.
use Rattle.std.specs.Prelude.{◌≡◌, ℕ, zero, suc, ◌%◌, ℤ, pos, Option, Some, None, List, [], ◌∷◌, ◌++◌, slice_get}
use Rattle.sb_rows.specs.Balances.{Balances}
use Rattle.lane_audit.specs.Audit.{balances_total}
use Rattle.sb_calls.specs.Behaviour.{declared_cowns, effect_of}
use Rattle.sb_calls.specs.Op.{op_of}
use Rattle.sb_calls.specs.declared.call.Call.TheVariants.{DepositChecking}
use Rattle.sb_calls.specs.declared.op.Op.{Op}
use Rattle.sb_calls.specs.declared.op.Op.TheVariants.{NoCustomer}
use Rattle.cown_board.specs.Board.{BoardOf, IsAfterAll}
use Rattle.store_timing.specs.declared.payees.Payees.{Payees}
use Rattle.store_timing.specs.declared.payees.Payees.TheVariants.{One, Many}

-- a deposit of a cent for the customer with this name, if there is one
abbrev pub cent_for : List (List ℕ) → Option (List ℕ) → Op
cent_for names None = NoCustomer
cent_for names (Some name) = op_of names (DepositChecking name (pos 1))

-- the place of the payee of a call: always the first, or the next of 1,024 in turn
abbrev pub payee_of : Payees → ℕ → ℕ
payee_of One call = 0
payee_of Many call = call % 1024

-- this many deposits of a cent, each for the payee of its call
abbrev pub cents_in_turn : List (List ℕ) → Payees → ℕ → List Op
cents_in_turn names payees zero = []
cents_in_turn names payees (suc calls) =
    cents_in_turn names payees calls ++ cent_for names (slice_get names (payee_of payees calls)) ∷ []

-- this is the total of all customers' balances after the whole log
abbrev pub IsTotalAfterAll : BoardOf Op → ℤ → Type 0
IsTotalAfterAll board cents = (columns : Balances)
    × IsAfterAll declared_cowns effect_of board columns × (cents ≡ balances_total columns)
