use Rattle.std.proofs.Common.{[], length, refl, sym, ◌∙◌, arith, eqb-true, drop_of_length-le}
use Rattle.std.proofs.lemmas.Bool.{eqb-false}
use Rattle.sb_rows.proofs.SplitAtFirstByte.{lines-first, lines-whole, lines-nil, found_first, nothing_found, to_end}
use Rattle.sb_rows.specs.Text.{is_line_feed}
use Rattle.sb_rows.proofs.text.next_line.Goals as goal

pub returns-in-Some-clause-line : goal.returns-in-Some-clause-line
returns-in-Some-clause-line c = rw to_end (lines-first c.args.text.now c.in-Some.end c.in-Some.ensures)

pub returns-in-Some-clause-after : goal.returns-in-Some-clause-after
returns-in-Some-clause-after c = rw (to_end, found_first is_line_feed c.args.text.now c.in-Some.end c.in-Some.ensures) refl

pub returns-in-None-clause-line : goal.returns-in-None-clause-line
returns-in-None-clause-line c = lines-nil c.args.text.now (eqb-true (length c.args.text.now) 0 (sym c.is_empty.ensures ∙ c.if-is_empty.true))

pub returns-in-None-2-clause-line : goal.returns-in-None-2-clause-line
returns-in-None-2-clause-line c =
    let some = eqb-false (length c.args.text.now) 0 (sym c.is_empty.ensures ∙ c.if-is_empty.false) in
    rw (lines-nil [] refl) (lines-whole c.args.text.now c.in-None-2.ensures (omega arith))

pub returns-in-None-2-clause-after : goal.returns-in-None-2-clause-after
returns-in-None-2-clause-after c =
    let e = nothing_found is_line_feed c.args.text.now c.in-None-2.ensures in
    rw e (sym (drop_of_length-le c.args.text.now (omega arith)))
