-- A bank that serves many clients at once: its output, and what is left of it.
use Rattle.std.specs.Prelude.{◌≡◌, ℕ, Option, List, ◌∷◌, ◌++◌, length}
use Rattle.std.specs.List.{All}
use Rattle.sb_checkpoint.specs.Stores.{StoreModel}
use Rattle.sb_ask_log.specs.Keeping.{KeeperModel}
use Rattle.bank_server.specs.Clients.{ClientOf, End}
use Rattle.bank_server.specs.Primary.{PrimaryOf, opening_rows_of}
use Rattle.bank_clients.specs.History.{GoesOn, OutsideOf}
use Rattle.bank_service.specs.ServeOutput.{PrintsLines, ServerContinues, end_lines, log_lines, port_line, session_lines}
use Rattle.bank_service.specs.ServedBank.{IsBankAfter}
use Rattle.program_words.specs.declared.plan.Plan.{Plan}

-- a bank serves clients at once at a port, by this plan: each of them is served as if its session were
-- alone, by the log of all. The bank prints the log's line, if it has one, the port, how each session
-- ended whose client left, in this order, as many as the plan has, the log's line again, and the rows
-- after the log, executed one by one; and what is left of it is as `IsBankAfter` says
pub record ServesAtOnce {S K : Type 0} (model : StoreModel S) (keeper : KeeperModel K) (plan : Plan) (port : ℕ)
    (outside outside_after : OutsideOf) (clients clients_after : List ClientOf) (before after : PrimaryOf S K)
    (old new : Option (List ℕ)) : Type 0 where
  pub ends : List End
  pub goes_on : GoesOn (opening_rows_of before) outside before.log clients ends outside_after after.log clients_after
  pub all : length ends ≡ plan.sessions
  pub go_on : All ServerContinues ends
  pub printed : PrintsLines (log_lines (keeper.opening before.keeper) before.log
      ++ (port_line plan.host port ∷ session_lines 1 ends ++ log_lines (keeper.opening before.keeper) after.log
      ++ end_lines before.node.names before.node.board.opening after.log)) old new
  pub left : IsBankAfter model keeper plan.saves 1 before after
