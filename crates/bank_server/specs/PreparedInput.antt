-- An input that is ready to be executed.
use Rattle.std.specs.Prelude.{◌≡◌, ℕ, Ok, List, ◌++◌, length, map}
use Rattle.std.specs.List.{All}
use Rattle.sb_rows.specs.Balances.{Balances}
use Rattle.sb_rows.specs.Rows.{SameCustomers, rows_of}
use Rattle.sb_rows.specs.Text.{unlines}
use Rattle.sb_calls.specs.Log.{rows_after, replies_to}
use Rattle.sb_calls.specs.declared.call.Call.{Call}
use Rattle.sb_text.specs.Listing.{row_lines}
use Rattle.bank_server.specs.Execution.{HasNoEntries}
use Rattle.sb_sequencer.specs.Numbering.{calls_of}
use Rattle.bank_server.specs.Output.{output_of}
use Rattle.bank_server.specs.Standing.{IsStandingWithin, standing_line}
use Rattle.bank_server.specs.declared.input.asking.Standing.{Standing}
use Rattle.bank_server.specs.declared.input.prepared_input.PreparedInput.{PreparedInput}

-- the lines for asks with these standings in a log of these calls, and then the rows after it with
-- their total
abbrev pub output_after : List (List ℕ) → Balances → List Call → List Standing → List ℕ
output_after names opening calls standings =
    unlines (map (standing_line (replies_to (rows_of names opening) calls)) standings)
    ++ unlines (row_lines names (rows_after calls (rows_of names opening)))

-- the opening, the log and the standings in it are those of this input, and nothing is executed yet
pub record IsPreparedInputOf (text : List ℕ) (prepared : PreparedInput) : Type 0 where
  pub customers : SameCustomers prepared.primary.node.names prepared.primary.node.board.opening
  pub opened : HasNoEntries prepared.primary.node.board
  pub among : All (IsStandingWithin (length prepared.primary.log)) prepared.standings.items
  pub output : output_of text ≡ Ok (output_after prepared.primary.node.names prepared.primary.node.board.opening
      (calls_of prepared.primary.log) prepared.standings.items)
