-- A node that has nothing of the log yet.
use Rattle.std.proofs.Common.{◌≡◌, ℕ, List, ap, ◌∙◌}
use Rattle.sb_calls.specs.Behaviour.{declared_cowns, effect_of}
use Rattle.sb_calls.specs.Cowns.{contents_of}
use Rattle.sb_calls.specs.SerialRun.{contents_after}
use Rattle.sb_calls.specs.declared.op.Op.{Op}
use Rattle.sb_calls.proofs.CownColumns.{contents_of-injective}
use Rattle.sb_rows.specs.Balances.{Balances, IsBalances}
use Rattle.sb_rows.specs.Rows.{SameCustomers}
use Rattle.cown_board.specs.Board.{BoardOf, IsAfterAll}
use Rattle.bank_server.specs.Execution.{HasNoEntries}

-- the columns of a board without entries are its opening
pub opened_columns : (names : List (List ℕ)) (board : BoardOf Op) (columns : Balances) → HasNoEntries board → SameCustomers names board.opening
    → IsAfterAll declared_cowns effect_of board columns → IsBalances columns → columns ≡ board.opening
opened_columns names board columns opened same after bank =
    contents_of-injective columns board.opening bank.same same.balances.same
    (after ∙ ap (contents_after declared_cowns effect_of (contents_of board.opening)) opened.log)
