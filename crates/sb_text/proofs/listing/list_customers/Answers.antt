use Rattle.std.proofs.Common.{[], ◌++◌, ◌+◌, ◌<◌, length, ap, map, drop, sym, ◌∙◌, refl, arith, append-nil}
use Rattle.std.proofs.lemmas.Option.{slice_get-get_or}
use Rattle.sb_rows.specs.Customer.{customers_of}
use Rattle.sb_rows.specs.Opening.{customer_line}
use Rattle.sb_rows.specs.Text.{unlines}
use Rattle.sb_text.proofs.RowsByPlace.{lines_by_step, customers_end}
use Rattle.sb_text.proofs.listing.list_customers.Goals as goal

pub loop-place-preserved : goal.loop-place-preserved
loop-place-preserved c =
    let left = unlines (map customer_line (drop (c.loop-place.place + 1) (customers_of c.args.directory.now c.args.columns.now))) in
    ap (λ text. text ++ left) c.in_ok-push_customer.ensures
    ∙ (lines_by_step c.loop-place.out.items c.args.directory.now c.args.columns.now c.loop-place.place c.unwrap-name.result c.savings_of.result
    c.checking_of.result
    (sym c.name.ensures ∙ c.unwrap-name.ensures) c.savings_of.ensures.value c.checking_of.ensures ∙ c.loop-place.invariant)

pub returns : goal.returns
returns c =
    let b = c.args.columns.now in
    let none = customers_end c.args.directory.now b.savings b.checking c.loop-place.place (omega arith) in
    sym (append-nil c.loop-place.out.items) ∙ (ap (λ rest. c.loop-place.out.items ++ unlines (map customer_line rest)) (sym none) ∙ c.loop-place.invariant)

pub overflow_cast-place-end : goal.overflow_cast-place-end
overflow_cast-place-end c = omega (arith, c.len-place-end.ensures.value, c.requires.names.limit)

pub unwrap-name-requires : goal.unwrap-name-requires
unwrap-name-requires c =
    let within : c.loop-place.place < length c.args.directory.now = omega (arith, c.loop-place-test.true, c.len-place-end.ensures.value) in
    rw (c.name.ensures, slice_get-get_or c.args.directory.now c.loop-place.place [] within) refl
