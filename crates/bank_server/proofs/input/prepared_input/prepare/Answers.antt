use Rattle.std.proofs.Common.{◌≡◌, ℕ, ◌+◌, ◌-◌, List, [], length, take, drop, subst, ◌∙◌, arith, length-drop}
use Rattle.std.proofs.lemmas.List.{take_all}
use Rattle.std.proofs.lemmas.Result.{err_from_is_err_and}
use Rattle.sb_rows.specs.Opening.{OpeningText}
use Rattle.sb_rows.specs.Text.{lines}
use Rattle.bank_server.specs.AskResults.{LinesGiveStandings}
use Rattle.bank_server.specs.Faults.{IsTextFaultOf}
use Rattle.bank_server.specs.Input.{asks_from, in_call}
use Rattle.bank_server.proofs.boards.Runs.{prepared_at}
use Rattle.bank_server.proofs.lines.WholeOutput.{asked_stand, fault_of_asks, fault_of_opening, output_is}
use Rattle.bank_server.proofs.input.prepared_input.prepare.Goals as goal

pub returns-in_err-opening : goal.returns-in_err-opening
returns-in_err-opening c =
    let p = err_from_is_err_and c.from_residual.result c.from_residual.ensures.1 in
    rw (p.1, p.2) (fault_of_opening c.args.input.now c.in_err-opening.field-0.0 c.in_err-opening.ensures.exact)

pub returns-in_err-standings : goal.returns-in_err-standings
returns-in_err-standings c =
    let p = err_from_is_err_and c.from_residual-in_err-standings.result c.from_residual-in_err-standings.ensures.1 in
    let input = c.args.input.now in
    let o = c.in_ok-opening.opening in
    let opening : OpeningText = record { names = o.directory; balances = o.columns; consumed = o.consumed } in
    let fault = c.in_err-standings.field-0.0 in
    let rest : take (length input - opening.consumed) (drop opening.consumed input) ≡ drop opening.consumed input =
    take_all (length input - opening.consumed) (drop opening.consumed input) (omega (arith, length-drop opening.consumed input)) in
    let told : IsTextFaultOf fault (in_call (asks_from (length opening.names + 2) [] (lines (drop opening.consumed input)))) =
    subst (λ (n : ℕ). IsTextFaultOf fault (in_call (asks_from (n + 2) [] (lines (drop opening.consumed input))))) c.len-first_line.ensures.value
    (subst (λ (text : List ℕ). IsTextFaultOf fault (in_call (asks_from (c.len-first_line.result + 2) [] (lines text))))
    rest c.in_err-standings.ensures.asked) in
    rw (p.1, p.2) (fault_of_asks input opening fault c.in_ok-opening.ensures.exact told)

pub returns : goal.returns
returns c =
    let input = c.args.input.now in
    let o = c.in_ok-opening.opening in
    let opening : OpeningText = record { names = o.directory; balances = o.columns; consumed = o.consumed } in
    let log = c.ask_lines.new.primary.log in
    let standings = c.in_ok-standings.standings.items in
    let rest : take (length input - opening.consumed) (drop opening.consumed input) ≡ drop opening.consumed input =
    take_all (length input - opening.consumed) (drop opening.consumed input) (omega (arith, length-drop opening.consumed input)) in
    let asked : LinesGiveStandings (asks_from (length opening.names + 2) [] (lines (drop opening.consumed input))) log standings =
    subst (λ (n : ℕ). LinesGiveStandings (asks_from (n + 2) [] (lines (drop opening.consumed input))) log standings) c.len-first_line.ensures.value
    (subst (λ (text : List ℕ). LinesGiveStandings (asks_from (c.len-first_line.result + 2) [] (lines text)) log standings)
    rest c.in_ok-standings.ensures.asked) in
    prepared_at input (record { primary = c.ask_lines.new.primary; standings = c.in_ok-standings.standings }) o c.new-store.result
    (c.ask_lines.ensures.node ∙ c.in_ok-primary.ensures.node) o.same_customers
    (asked_stand _ log standings c.in_ok-standings.ensures.asked) (output_is input opening log standings c.in_ok-opening.ensures.exact asked)
