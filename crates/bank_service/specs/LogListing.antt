-- What is listed of a log.
use Rattle.std.specs.Prelude.{◌≡◌, ℕ, Some, Ok, List, ◌++◌, map}
use Rattle.sb_rows.specs.Customer.{customers_of}
use Rattle.sb_rows.specs.Balances.{Balances}
use Rattle.sb_rows.specs.Opening.{OpeningText, opening_lines, opening_of}
use Rattle.sb_rows.specs.Rows.{SameCustomers, rows_of}
use Rattle.sb_rows.specs.Text.{unlines}
use Rattle.sb_calls.specs.Ask.{ask_line}
use Rattle.sb_calls.specs.Log.{rows_after}
use Rattle.sb_calls.specs.declared.ask.Key.{Key}
use Rattle.sb_calls.specs.declared.call.Call.{Call}
use Rattle.sb_sequencer.specs.Numbering.{calls_of}
use Rattle.bank_service.specs.ServeOutput.{log_lines}
use Rattle.program_words.specs.declared.listing.Listing.{Listing}
use Rattle.program_words.specs.declared.listing.Listing.TheVariants.{Asks, Rows, Check}

-- `ask CLIENT REQUEST CALL`, for each ask in order
abbrev pub ask_lines_of : List (Key × Call) → List (List ℕ)
ask_lines_of log = map (λ ask. ask_line (record { key = Some ask.0; call = ask.1 })) log

-- the balances are those after a log, run one by one over the opening of a text
pub record AreRowsAfter (text : List ℕ) (log : List (Key × Call)) (names : List (List ℕ))
    (after : Balances) : Type 0 where
  pub opening : OpeningText
  pub read : opening_of text ≡ Ok opening
  pub names_are : names ≡ opening.names
  pub customers : SameCustomers names after
  pub rows : rows_of names after ≡ rows_after (calls_of log) (rows_of names opening.balances)

-- what is listed of a log with this opening text: the opening and the asks, which are an input of a run;
-- the rows after it, as an opening; or its line
abbrev pub IsListing : Listing → List ℕ → List (Key × Call) → List ℕ → Type 0
IsListing Asks text log listing = listing ≡ text ++ unlines (ask_lines_of log)
IsListing Rows text log listing = (names : List (List ℕ)) × (after : Balances)
    × AreRowsAfter text log names after × (listing ≡ unlines (opening_lines (customers_of names after)))
IsListing Check text log listing = listing ≡ unlines (log_lines (Some text) log)
