-- The steps of serving a bank, and what each prints.
use Rattle.std.specs.Prelude.{ℕ, Option, List}
use Rattle.sb_ask_log.specs.Keeping.{KeeperModel}
use Rattle.bank_server.specs.Primary.{PrimaryOf}
use Rattle.bank_service.specs.ServeOutput.{log_lines, PrintsLines, end_lines}

-- the line of the bank's log is printed, if its keeper has a file
abbrev pub PrintsLog : {S K : Type 0} → KeeperModel K → PrimaryOf S K → Option (List ℕ) → Option (List ℕ) → Type 0
PrintsLog keeper primary old new = PrintsLines (log_lines (keeper.opening primary.keeper) primary.log) old new

-- these lines are printed, for the log and the opening of the bank
abbrev pub PrintsRows : {S K : Type 0} → PrimaryOf S K → Option (List ℕ) → Option (List ℕ) → Type 0
PrintsRows primary old new = PrintsLines (end_lines primary.node.names primary.node.board.opening primary.log) old new
