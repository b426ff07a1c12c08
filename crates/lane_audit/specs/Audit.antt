-- The totals that a bank and its calls may have.
use Rattle.std.specs.Prelude.{◌≡◌, ℤ, ◌+ℤ◌}
use Rattle.sb_rows.specs.Balances.{Balances, IsBalances}
use Rattle.lane_audit.specs.Columns.{total}

-- the sum of all savings and checking balances
abbrev pub balances_total : Balances → ℤ
balances_total balances = total balances.savings +ℤ total balances.checking

-- the number is the total of some bank's balances
abbrev pub IsBankTotal : ℤ → Type 0
IsBankTotal cents = (opening : Balances) × IsBalances opening × (cents ≡ balances_total opening)
