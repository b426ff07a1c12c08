-- Which calls must wait for one another.
use Rattle.std.specs.Prelude.{◌≡◌, ◌↔◌, ℕ, true, List}
use Rattle.std.specs.List.{Contains}
use Rattle.sb_rows.specs.Balances.{Balances}
use Rattle.sb_rows.specs.Rows.{rows_of, SameCustomers}
use Rattle.sb_calls.specs.Behaviour.{declared_cowns}
use Rattle.sb_calls.specs.SerialRun.{share_cown}
use Rattle.sb_calls.specs.Op.{op_of}
use Rattle.sb_calls.specs.Touches.{BalanceCell, touched_cells}
use Rattle.sb_calls.specs.declared.call.Call.{Call}

-- two calls share a declared cown exactly if they share a touched balance, by its customer's name
abbrev pub ConflictsByName : Type 0
ConflictsByName = (directory : List (List ℕ)) (b : Balances) (first second : Call) → SameCustomers directory b
    → (share_cown (declared_cowns (op_of directory first)) (declared_cowns (op_of directory second)) ≡ true)
    ↔ ((cell : BalanceCell) × Contains (touched_cells (rows_of directory b) first) cell
    × Contains (touched_cells (rows_of directory b) second) cell)
