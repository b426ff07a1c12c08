-- The size is written first; the sign of a number below 0 goes before it.
use Rattle.std.proofs.Common.{rules, ◌≡◌, ◌+◌, ◌-◌, take, sym, ap, ◌∙◌, arith, nat_abs, w64}
use Rattle.std.proofs.lemmas.Int.{to_z-of_z}
use Rattle.std.proofs.lemmas.List.{drop-set, take-set, take-take}
use Rattle.sb_amount.proofs.Money.{money-negative, money-unsigned}
use Rattle.sb_amount.proofs.MoneyLengths.{length-money-negative, length-unsigned-le}
use Rattle.sb_amount.proofs.printing.write_total.Goals as goal

pub write_size-start-requires : goal.write_size-start-requires
write_size-start-requires c =
    let size = c.unsigned_abs.ensures.value ∙ ap nat_abs (to_z-of_z w64 c.args.cents c.ranges.cents) in
    rw size (omega (arith, length-unsigned-le c.args.cents), search rules)

pub overflow_sub-text : goal.overflow_sub-text
overflow_sub-text c =
    let size = c.unsigned_abs.ensures.value ∙ ap nat_abs (to_z-of_z w64 c.args.cents c.ranges.cents) in
    let start = rw size at c.write_size-start.ensures.start in
    omega (arith, start, length-money-negative c.args.cents (search rules))

pub overflow_sub-result : goal.overflow_sub-result
overflow_sub-result c =
    let size = c.unsigned_abs.ensures.value ∙ ap nat_abs (to_z-of_z w64 c.args.cents c.ranges.cents) in
    let start = rw size at c.write_size-start.ensures.start in
    omega (arith, start, length-money-negative c.args.cents (search rules))

pub returns-then-cents-lt0-clause-start : goal.returns-then-cents-lt0-clause-start
returns-then-cents-lt0-clause-start c =
    let size = c.unsigned_abs.ensures.value ∙ ap nat_abs (to_z-of_z w64 c.args.cents c.ranges.cents) in
    let start = rw size at c.write_size-start.ensures.start in
    omega (arith, start, length-money-negative c.args.cents (search rules))

pub returns-then-cents-lt0-clause-written : goal.returns-then-cents-lt0-clause-written
returns-then-cents-lt0-clause-written c =
    let w = c.write_size-start in
    let size = c.unsigned_abs.ensures.value ∙ ap nat_abs (to_z-of_z w64 c.args.cents c.ranges.cents) in
    let start = rw size at w.ensures.start in
    let longer = length-money-negative c.args.cents (search rules) in
    let e : w.result - 1 + 1 ≡ w.result = omega (arith, start, longer) in
    rw (drop-set w.new.text (w.result - 1) 45 (omega (arith, start, longer)), e, w.ensures.written, size, money-negative c.args.cents (search rules))

pub returns-then-cents-lt0-clause-before : goal.returns-then-cents-lt0-clause-before
returns-then-cents-lt0-clause-before c =
    let w = c.write_size-start in
    take-set w.new.text (w.result - 1) 45 ∙ sym (take-take (w.result - 1) w.result w.new.text (omega arith))
    ∙ ap (take (w.result - 1)) w.ensures.before ∙ take-take (w.result - 1) w.result c.args.text.now (omega arith)

pub returns-clause-start : goal.returns-clause-start
returns-clause-start c =
    let size = c.unsigned_abs.ensures.value ∙ ap nat_abs (to_z-of_z w64 c.args.cents c.ranges.cents) in
    rw (money-unsigned c.args.cents (search rules), ← size) (search rules)

pub returns-clause-written : goal.returns-clause-written
returns-clause-written c =
    let size = c.unsigned_abs.ensures.value ∙ ap nat_abs (to_z-of_z w64 c.args.cents c.ranges.cents) in
    rw (money-unsigned c.args.cents (search rules), ← size) (search rules)
