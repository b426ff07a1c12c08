use Rattle.std.proofs.Common.{ap, ◌∙◌, ◌++◌, List, ℕ}
use Rattle.std.proofs.lemmas.Result.{err_from_is_err_and}
use Rattle.sb_rows.specs.Balances.{Balances}
use Rattle.sb_rows.specs.Customer.{customers_of}
use Rattle.sb_rows.specs.Opening.{opening_lines}
use Rattle.sb_rows.specs.Text.{unlines}
use Rattle.checkpoint_text.specs.Origins.{opening_origin}
use Rattle.checkpoint_text.proofs.OpeningListings.{is_opening_listing}
use Rattle.checkpoint_text.proofs.StatedFaults.{right_head}
use Rattle.checkpoint_text.proofs.listing.opening_text.Goals as goal

pub returns-in_err-push_opening_lines-clause-fault : goal.returns-in_err-push_opening_lines-clause-fault
returns-in_err-push_opening_lines-clause-fault c =
    let failed = c.from_residual-in_err-push_opening_lines in
    let p = err_from_is_err_and failed.result failed.ensures.1 in
    rw (p.1, p.2) (right_head c.args.bytes.now (opening_origin c.args.opening.now.columns) c.in_ok-checkpoint.ensures.fault)

pub returns-clause-listed : goal.returns-clause-listed
returns-clause-listed c =
    let opening = c.args.opening.now in
    let text_of : Balances → List ℕ = λ columns. unlines (opening_lines (customers_of opening.directory columns)) in
    is_opening_listing opening c.args.bytes.now _ c.in_ok-checkpoint.checkpoint c.in_ok-checkpoint.ensures.checkpoint
    (c.in_ok-push_opening_lines.ensures ∙ ap (λ (old : List ℕ). old ++ text_of c.columns.result.now) c.new-text.ensures.items
    ∙ ap text_of c.columns.ensures)
