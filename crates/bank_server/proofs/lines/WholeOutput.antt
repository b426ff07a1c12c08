-- A whole output from its parts.
use Rattle.std.proofs.Common.{◌≡◌, ℕ, ◌+◌, Result, Ok, Err, List, [], ◌∷◌, ◌++◌, length, map, drop, refl, sym, ap, subst, ◌∙◌}
use Rattle.std.specs.List.{All}
use Rattle.std.proofs.lemmas.Grind.{flat_map-append}
use Rattle.sb_rows.specs.Opening.{OpeningText, opening_of, ◌>>=◌}
use Rattle.sb_rows.specs.Rows.{Rows, rows_of}
use Rattle.sb_rows.specs.Text.{lines, unlines}
use Rattle.sb_rows.specs.OpeningReads.{Reads}
use Rattle.sb_rows.specs.declared.fault.LineFault.{LineFault}
use Rattle.sb_rows.specs.declared.fault.OpeningFault.{OpeningFault}
use Rattle.sb_rows.specs.declared.fault.OpeningFault.TheVariants.{Line, OutOfMemory}
use Rattle.sb_calls.specs.Log.{rows_after, replies_to}
use Rattle.sb_calls.specs.declared.ask.AskLine.{AskLine}
use Rattle.sb_calls.specs.declared.ask.Key.{Key}
use Rattle.sb_calls.specs.declared.call.Call.{Call}
use Rattle.sb_calls.specs.declared.text.fault.CallFault.{CallFault}
use Rattle.sb_text.specs.Listing.{row_lines}
use Rattle.bank_server.specs.AskResults.{AsksGiveStandings, LinesGiveStandings}
use Rattle.bank_server.specs.Asks.{asks_with_keys}
use Rattle.bank_server.specs.Faults.{IsTextFaultOf}
use Rattle.bank_server.specs.Input.{InputText, asks_from, in_opening, in_call}
use Rattle.bank_server.specs.inner.RunFaults.{run_of_opening_fault}
use Rattle.bank_server.specs.Standing.{IsStandingWithin, standing_of, standing_line}
use Rattle.bank_server.proofs.lines.Standings.{all_among}
use Rattle.sb_sequencer.specs.Numbering.{calls_of}
use Rattle.bank_server.specs.Output.{log_of_asks, answer_lines, output_lines, output_of}
use Rattle.bank_server.specs.declared.input.asking.Standing.{Standing}
use Rattle.bank_server.specs.declared.fault.InputFault.{InputFault}
use Rattle.bank_server.specs.declared.fault.RunFault.{RunFault}
use Rattle.bank_server.specs.declared.fault.RunFault.TheVariants as runs

map_map : {A B C : Type 0} (f : B → C) (g : A → B) (xs : List A) → map f (map g xs) ≡ map (λ x. f (g x)) xs
map_map f g [] = refl
map_map f g (x ∷ xs) = ap (λ rest. f (g x) ∷ rest) (map_map f g xs)

-- the lines of the standings are the answers
answers_are : (opening : Rows) (asks : List AskLine) (log : List (Key × Call)) (standings : List Standing) → AsksGiveStandings asks log standings
    → map (standing_line (replies_to opening (calls_of log))) standings ≡ answer_lines opening asks
unfolding answer_lines
answers_are opening asks log standings h =
    ap (map (standing_line (replies_to opening (calls_of log)))) h.standings_are
    ∙ map_map (standing_line (replies_to opening (calls_of log))) (standing_of log) (asks_with_keys asks)
    ∙ ap (λ l. map (λ ask. standing_line (replies_to opening (calls_of l)) (standing_of l ask)) (asks_with_keys asks)) h.log_is

-- the standing of each ask is among the log's calls
pub asked_stand : (read : Result (List AskLine) (ℕ × CallFault)) (log : List (Key × Call)) (standings : List Standing) → LinesGiveStandings read log standings
    → All (IsStandingWithin (length log)) standings
asked_stand (Ok asks) log standings h = subst (All (IsStandingWithin (length log))) (sym h.standings_are) (all_among log (asks_with_keys asks))
asked_stand (Err fault) log standings h = absurd h

-- the output for these asks after an opening, or their first fault
abbrev output_of_asks : OpeningText → Result (List AskLine) (ℕ × InputFault) → Result (List ℕ) (ℕ × InputFault)
output_of_asks opening read = (read >>= λ asks. Ok (record { opening = opening; asks = asks })) >>= λ (i : InputText). Ok (unlines (output_lines i))

-- the output for an input whose opening was read so
abbrev output_from : List ℕ → Result OpeningText (ℕ × LineFault) → Result (List ℕ) (ℕ × InputFault)
output_from input read = (in_opening read >>= λ o.
    (in_call (asks_from (length o.names + 2) [] (lines (drop o.consumed input))) >>= λ asks. Ok (record { opening = o; asks = asks })))
    >>= λ (i : InputText). Ok (unlines (output_lines i))

-- a fault of the opening is the input's
pub fault_of_opening : (input : List ℕ) (fault : OpeningFault) → Reads (Err fault) (opening_of input)
    → IsTextFaultOf (run_of_opening_fault fault) (output_of input)
fault_of_opening input (Line line fault) is = ap (output_from input) is
fault_of_opening input OutOfMemory is = tt

-- and so is the first fault of the asking lines after an opening
pub fault_of_asks : (input : List ℕ) (opening : OpeningText) (fault : RunFault) → opening_of input ≡ Ok opening
    → IsTextFaultOf fault (in_call (asks_from (length opening.names + 2) [] (lines (drop opening.consumed input)))) → IsTextFaultOf fault (output_of input)
fault_of_asks input opening (runs.Input line fault) read is = ap (output_from input) read ∙ ap (output_of_asks opening) is
fault_of_asks input opening (runs.Strayed node reason) read is = absurd is
fault_of_asks input opening runs.CrewGone read is = absurd is
fault_of_asks input opening runs.Device read is = absurd is
fault_of_asks input opening runs.OutOfMemory read is = tt

-- the result of an opening, the asks after it, and their answers
pub output_is : (input : List ℕ) (opening : OpeningText) (log : List (Key × Call)) (standings : List Standing) → opening_of input ≡ Ok opening
    → LinesGiveStandings (asks_from (length opening.names + 2) [] (lines (drop opening.consumed input))) log standings
    → output_of input ≡ Ok (unlines (map (standing_line (replies_to (rows_of opening.names opening.balances) (calls_of log))) standings)
    ++ unlines (row_lines opening.names (rows_after (calls_of log) (rows_of opening.names opening.balances))))
output_is input opening log standings e h = by (asks_from (length opening.names + 2) [] (lines (drop opening.consumed input))) refl h
  where
    by : (read : Result (List AskLine) (ℕ × CallFault)) → asks_from (length opening.names + 2) [] (lines (drop opening.consumed input)) ≡ read
        → LinesGiveStandings read log standings
        → output_of input ≡ Ok (unlines (map (standing_line (replies_to (rows_of opening.names opening.balances) (calls_of log))) standings)
        ++ unlines (row_lines opening.names (rows_after (calls_of log) (rows_of opening.names opening.balances))))
    by (Err fault) f k = absurd k
    by (Ok asks) f k =
        let rows = rows_of opening.names opening.balances in
        ap (output_from input) e ∙ ap (λ (read : Result (List AskLine) (ℕ × CallFault)). output_of_asks opening (in_call read)) f
        ∙ ap Ok (flat_map-append (λ line. line ++ 10 ∷ []) (answer_lines rows asks) (row_lines opening.names (rows_after (calls_of (log_of_asks asks)) rows)))
        ∙ sym (λ j. Ok (unlines (answers_are rows asks log standings k j) ++ unlines (row_lines opening.names (rows_after (calls_of (k.log_is j)) rows))))
