-- The output for an input.
use Rattle.std.specs.Prelude.{ℕ, Result, Ok, List, ◌++◌, map}
use Rattle.sb_rows.specs.Opening.{◌>>=◌}
use Rattle.sb_rows.specs.Rows.{Rows, rows_of}
use Rattle.sb_rows.specs.Text.{unlines}
use Rattle.sb_calls.specs.Log.{rows_after, replies_to}
use Rattle.sb_calls.specs.declared.ask.AskLine.{AskLine}
use Rattle.sb_calls.specs.declared.ask.Key.{Key}
use Rattle.sb_calls.specs.declared.call.Call.{Call}
use Rattle.sb_sequencer.specs.Numbering.{calls_of, first_asks}
use Rattle.sb_text.specs.Listing.{row_lines}
use Rattle.bank_server.specs.Asks.{asks_with_keys}
use Rattle.bank_server.specs.Input.{InputText, input_of}
use Rattle.bank_server.specs.Standing.{standing_of, standing_line}
use Rattle.bank_server.specs.declared.fault.InputFault.{InputFault}

-- the log: the first asks of each key, at most 1,000,000
abbrev pub log_of_asks : List AskLine → List (Key × Call)
log_of_asks asks = first_asks (asks_with_keys asks)

-- one line for each asking line, by its standing in the log and the replies to the log
unfoldable pub answer_lines : Rows → List AskLine → List (List ℕ)
answer_lines opening asks =
    map (λ ask. standing_line (replies_to opening (calls_of (log_of_asks asks))) (standing_of (log_of_asks asks) ask))
    (asks_with_keys asks)

-- the answers, and then the rows after the whole log with their total
abbrev pub output_lines : InputText → List (List ℕ)
output_lines input =
    let opening = rows_of input.opening.names input.opening.balances in
    answer_lines opening input.asks
    ++ row_lines input.opening.names (rows_after (calls_of (log_of_asks input.asks)) opening)

-- the output for an input, or the input's first line at fault with its fault
abbrev pub output_of : List ℕ → Result (List ℕ) (ℕ × InputFault)
output_of text = input_of text >>= λ input. Ok (unlines (output_lines input))
