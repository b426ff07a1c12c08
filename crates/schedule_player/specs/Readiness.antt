-- Which accepted entries may run, by the balances that their calls touch.
use Rattle.std.specs.Prelude.{ℕ, Bool, false, ◌&&◌, Option, Some, None, List, [], slice_get, length}
use Rattle.std.specs.List.{list_any}
use Rattle.std.specs.Str.{bytes_eq}
use Rattle.sb_calls.specs.Touches.{BalanceCell, Savings, Checking, touched_cells}
use Rattle.sb_calls.specs.declared.call.Call.{Call}
use Rattle.cown_board.specs.Positions.{positions, none_below}
use Rattle.schedule_player.specs.Bank.{BankOf, opening_rows}
use Rattle.schedule_player.specs.Stage.{Stage, waits, is_undone}

abbrev pub same_balance : BalanceCell → BalanceCell → Bool
same_balance (Savings a) (Savings b) = bytes_eq a b
same_balance (Savings a) (Checking b) = false
same_balance (Checking a) (Savings b) = false
same_balance (Checking a) (Checking b) = bytes_eq a b

-- whether two lists have a balance in common
abbrev pub share_balance : List BalanceCell → List BalanceCell → Bool
share_balance these others = list_any (λ place. list_any (same_balance place) others) these

-- the balances that a call touches; none if there is no call
abbrev pub touched_in : BankOf → Option Call → List BalanceCell
touched_in bank None = []
touched_in bank (Some call) = touched_cells (opening_rows bank) call

-- whether the calls at two indices of the log, counted from 0, touch a common balance
abbrev pub conflict_between : BankOf → ℕ → ℕ → Bool
conflict_between bank j k =
    share_balance (touched_in bank (slice_get bank.calls j)) (touched_in bank (slice_get bank.calls k))

-- whether there is a stage at an index, and it passes this test
abbrev pub stage_is : (Stage → Bool) → Option Stage → Bool
stage_is test None = false
stage_is test (Some stage) = test stage

-- an entry may run exactly if it waits, and no undone entry before it touches a balance that it
-- touches
abbrev pub may_run : BankOf → List Stage → ℕ → Bool
may_run bank stages k =
    stage_is waits (slice_get stages k)
    && none_below (λ j. stage_is is_undone (slice_get stages j) && conflict_between bank j k) k

-- the indices of the entries that may run, in rising order
unfoldable pub runnable_entries : BankOf → List Stage → List ℕ
runnable_entries bank stages = positions (may_run bank stages) (length stages)
