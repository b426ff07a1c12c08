use Rattle.std.proofs.Common.{◌++◌, ◌+◌, ◌<◌, length, ap, map, decimal, drop, sym, ◌∙◌, arith, append-nil}
use Rattle.sb_rows.specs.Opening.{customer_line}
use Rattle.sb_rows.specs.Text.{unlines}
use Rattle.sb_text.proofs.RowsByPlace.{lines_by_step, customers_end}
use Rattle.checkpoint_text.proofs.PlaceLines.{name_of_place, place_customers, place_names}
use Rattle.checkpoint_text.proofs.lines.push_places.Goals as goal

pub loop-place-preserved : goal.loop-place-preserved
loop-place-preserved c =
    let columns = c.args.columns.now in
    let place = c.loop-place.place in
    let left = unlines (map customer_line (drop (place + 1) (place_customers columns))) in
    let inside : place < length columns.savings = omega (arith, c.loop-place-test.true, c.customers-place-end.ensures.value) in
    ap (λ text. text ++ left) c.in_ok-push_place.ensures
    ∙ (lines_by_step c.loop-place.out.items (place_names columns) columns place (decimal place) c.savings_of.result c.checking_of.result
    (name_of_place columns place inside) c.savings_of.ensures.value c.checking_of.ensures ∙ c.loop-place.invariant)

pub returns : goal.returns
returns c =
    let columns = c.args.columns.now in
    let none = customers_end (place_names columns) columns.savings columns.checking c.loop-place.place (omega arith) in
    sym (append-nil c.loop-place.out.items) ∙ (ap (λ rest. c.loop-place.out.items ++ unlines (map customer_line rest)) (sym none) ∙ c.loop-place.invariant)
