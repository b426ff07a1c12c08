use Rattle.std.proofs.Common.{◌+◌, ◌≤◌, length, sym, rules, arith, length-take-le}
use Rattle.std.specs.Int.{w64, trailing_zeros}
use Rattle.sb_rows.proofs.WordsByMask.{first_word, one_word}
use Rattle.sb_rows.proofs.SplitAtFirstByte.{to_end}
use Rattle.sb_rows.proofs.text.next_word_by_mask.Goals as goal

pub returns-then-spaces-eq0-clause-words : goal.returns-then-spaces-eq0-clause-words
returns-then-spaces-eq0-clause-words c = one_word c.args.line.now c.args.spaces c.requires c.if-spaces-eq0.true

pub slice_bounds-rest-count : goal.slice_bounds-rest-count
slice_bounds-rest-count c =
    let first = first_word c.args.line.now c.args.spaces c.requires (omega (arith, c.if-spaces-eq0.false)) in
    omega (arith, first.inside)

pub slice_bounds-rest-start : goal.slice_bounds-rest-start
slice_bounds-rest-start c =
    let inside : trailing_zeros w64 c.args.spaces + 1 ≤ length c.args.line.now =
    omega (arith, (first_word c.args.line.now c.args.spaces c.requires (omega (arith, c.if-spaces-eq0.false))).inside) in
    search rules

pub slice_bounds-result-end : goal.slice_bounds-result-end
slice_bounds-result-end c =
    let first = first_word c.args.line.now c.args.spaces c.requires (omega (arith, c.if-spaces-eq0.false)) in
    sym (length-take-le (trailing_zeros w64 c.args.spaces) c.args.line.now (omega (arith, first.inside)))

pub returns-clause-words : goal.returns-clause-words
returns-clause-words c =
    rw to_end (first_word c.args.line.now c.args.spaces c.requires (omega (arith, c.if-spaces-eq0.false))).parted

pub returns-clause-spaces : goal.returns-clause-spaces
returns-clause-spaces c =
    rw to_end (first_word c.args.line.now c.args.spaces c.requires (omega (arith, c.if-spaces-eq0.false))).left
