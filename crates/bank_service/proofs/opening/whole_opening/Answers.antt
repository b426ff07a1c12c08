use Rattle.std.proofs.lemmas.Result.{err_from_is_err_and}
use Rattle.sb_rows.specs.Opening.{OpeningText}
use Rattle.bank_service.proofs.WholeOpenings.{fault_if_more, fault_of_opening, whole_if_all}
use Rattle.bank_service.proofs.opening.whole_opening.Goals as goal

pub returns-in_err-opening : goal.returns-in_err-opening
returns-in_err-opening c =
    let p = err_from_is_err_and c.from_residual.result c.from_residual.ensures.1 in
    rw (p.1, p.2) record { whole = fault_of_opening c.args.input.now c.in_err-opening.field-0.0 c.in_err-opening.ensures.exact }

pub returns-then-opening-input : goal.returns-then-opening-input
returns-then-opening-input c =
    let o = c.in_ok-opening.opening in
    let opening : OpeningText = record { names = o.directory; balances = o.columns; consumed = o.consumed } in
    rw c.fault_behind.ensures record { whole = fault_if_more c.args.input.now opening c.in_ok-opening.ensures.exact c.if-opening-input.true }

pub returns-else-opening-input : goal.returns-else-opening-input
returns-else-opening-input c =
    let o = c.in_ok-opening.opening in
    let opening : OpeningText = record { names = o.directory; balances = o.columns; consumed = o.consumed } in
    record { whole = whole_if_all c.args.input.now opening c.in_ok-opening.ensures.exact c.if-opening-input.false }
