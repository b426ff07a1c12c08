use Rattle.std.proofs.Common.{take, ap, sym, ◌∙◌, arith, true≢false}
use Rattle.sb_log.specs.Records.{size_field}
use Rattle.sb_log.proofs.Fields.{bytes_of_first, states, states_none}
use Rattle.sb_log.proofs.record.stated_size.Goals as goal

pub returns-then-are_same : goal.returns-then-are_same
returns-then-are_same c =
    let n = c.min-count.result in
    states c.args.head.now (size_field c.from_be_bytes-size.result) n c.min-count.ensures
    (c.are_same.ensures.0 c.if-are_same.true ∙ ap (take n) c.size_field-field.ensures)

pub returns-else-are_same : goal.returns-else-are_same
returns-else-are_same c =
    let n = c.min-count.result in
    states_none c.args.head.now c.first_four.result c.from_be_bytes-size.result n c.first_four.ensures (omega arith)
    (bytes_of_first c.args.head.now c.first_four.result c.first_four.ensures (λ i. omega
    (arith, c.type_inv.head i))) c.from_be_bytes-size.ensures c.min-count.ensures
    (λ same. true≢false (sym (c.are_same.ensures.1 (same ∙ ap (take n) (sym c.size_field-field.ensures))) ∙ c.if-are_same.false))
