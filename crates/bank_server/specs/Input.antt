-- What an input spells: an opening text, and then asking lines.
use Rattle.std.specs.Prelude.{ℕ, ◌+◌, Result, Ok, Err, List, [], ◌∷◌, ◌++◌, length, drop}
use Rattle.sb_rows.specs.Opening.{OpeningText, opening_of, ◌>>=◌, at_line}
use Rattle.sb_rows.specs.Text.{lines}
use Rattle.sb_rows.specs.declared.fault.LineFault.{LineFault}
use Rattle.sb_calls.specs.Ask.{ask_line_of}
use Rattle.sb_calls.specs.declared.ask.AskLine.{AskLine}
use Rattle.sb_calls.specs.declared.text.fault.CallFault.{CallFault}
use Rattle.bank_server.specs.declared.fault.InputFault.{InputFault}
use Rattle.bank_server.specs.declared.fault.InputFault.TheVariants as faults

-- a fault in a line of the opening
abbrev pub in_opening : {A : Type 0} → Result A (ℕ × LineFault) → Result A (ℕ × InputFault)
in_opening (Ok x) = Ok x
in_opening (Err e) = Err (e.0, faults.Opening e.1)

-- a fault in an asking line
abbrev pub in_call : {A : Type 0} → Result A (ℕ × CallFault) → Result A (ℕ × InputFault)
in_call (Ok x) = Ok x
in_call (Err e) = Err (e.0, faults.Call e.1)

-- the asks of these lines, after those before, or the first line at fault; the first line of all
-- has this number
unfoldable pub asks_from : ℕ → List AskLine → List (List ℕ) → Result (List AskLine) (ℕ × CallFault)
asks_from first before [] = Ok before
asks_from first before (line ∷ ls) =
    at_line (first + length before) (ask_line_of line) >>= λ asked. asks_from first (before ++ asked ∷ []) ls

-- an opening, and the asks after it
pub record InputText : Type 0 where
  pub opening : OpeningText
  pub asks : List AskLine

-- what an input spells, or its first line at fault with its fault
abbrev pub input_of : List ℕ → Result InputText (ℕ × InputFault)
input_of text = in_opening (opening_of text) >>= λ opening.
    (in_call (asks_from (length opening.names + 2) [] (lines (drop opening.consumed text))) >>= λ asks.
    Ok (record { opening = opening; asks = asks }))
