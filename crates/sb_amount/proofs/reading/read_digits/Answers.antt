-- A digit makes the number ten times as large and adds its value, and a point is counted.
use Rattle.std.proofs.Common.{rules, ◌≡◌, ◌+◌, ◌-◌, ◌*◌, min, nat_abs, true, false, pos, get_or, take, sym, ◌∙◌, ap, arith, length-take}
use Rattle.std.proofs.lemmas.Bool.{and_from, or_left, or_right, or_from, eq-eqb}
use Rattle.std.proofs.lemmas.List.{take_all}
use Rattle.std.proofs.lemmas.List.Folds.{list_all_at, list_all_more}
use Rattle.std.proofs.lemmas.List.Sums.{count_by_more_yes, count_by_more_no, count_by-le-length}
use Rattle.std.specs.Char.{is_ascii_digit}
use Rattle.std.specs.List.{list_all}
use Rattle.sb_amount.specs.declared.cents.TheConstants.{LIMIT}
use Rattle.sb_amount.specs.Reading.{is_point, cents_of_digits}
use Rattle.sb_amount.proofs.MoneyBodies.{is_body_byte}
use Rattle.sb_amount.proofs.Digits.{is_point-digit, cents_of_digits-more_digit, cents_of_digits-more_other}
use Rattle.sb_amount.proofs.reading.read_digits.Goals as goal
use Rattle.sb_amount.proofs.reading.read_digits.Goals.{then-is_ascii_digit, else-is_ascii_digit+then-byte-eq46}

pub loop-byte-preserved : goal.loop-byte-preserved
loop-byte-preserved c =
    let body = c.args.body.now in
    let i = c.loop-byte.byte-index in
    let byte = get_or body i 0 in
    let so_far = c.loop-byte.invariant in
    let bytes = list_all_more is_body_byte body i 0 c.loop-byte-test.true in
    elim c.if-is_ascii_digit.branch [
      | then-is_ascii_digit w ↦
          let digit : is_ascii_digit byte ≡ true = sym c.is_ascii_digit.ensures.value ∙ w.if-is_ascii_digit.true in
          let size : c.if-is_ascii_digit.size ≡ pos (min (cents_of_digits (take i body) * 10 + (byte - 48)) (nat_abs LIMIT + 1)) = search rules in
          let more = cents_of_digits-more_digit body i c.loop-byte-test.true digit in
          let points = count_by_more_no is_point body i 0 c.loop-byte-test.true (is_point-digit byte digit) in (
            bytes ∙ and_from (list_all is_body_byte (take i body)) (is_body_byte byte) so_far.0 (or_left (is_ascii_digit byte) (is_point byte) digit),
            c.if-is_ascii_digit.size-is ∙ size ∙ ap (λ n. pos (min n (nat_abs LIMIT + 1))) (sym more),
            w.points-is ∙ so_far.2 ∙ sym points,
          )
      | else-is_ascii_digit+then-byte-eq46 w ↦
          let other : is_ascii_digit byte ≡ false = sym c.is_ascii_digit.ensures.value ∙ w.if-is_ascii_digit.false in
          let point : is_point byte ≡ true = eq-eqb byte 46 w.if-byte-eq46.true in
          let same = cents_of_digits-more_other body i c.loop-byte-test.true other in
          let points = count_by_more_yes is_point body i 0 c.loop-byte-test.true point in (
            bytes ∙ and_from (list_all is_body_byte (take i body)) (is_body_byte byte) so_far.0 (or_right (is_ascii_digit byte) (is_point byte) point),
            w.size-is ∙ so_far.1 ∙ ap (λ n. pos (min n (nat_abs LIMIT + 1))) (sym same),
            w.points-is ∙ ap (λ n. n + 1) so_far.2 ∙ sym points,
          )
    ]

pub returns-else-byte-eq46 : goal.returns-else-byte-eq46
returns-else-byte-eq46 c =
    let body = c.args.body.now in
    let i = c.loop-byte.byte-index in
    let byte = get_or body i 0 in
    let other : is_ascii_digit byte ≡ false = sym c.is_ascii_digit.ensures.value ∙ c.if-is_ascii_digit.false in
    let no_point : is_point byte ≡ false = search rules in
    list_all_at is_body_byte body i 0 c.loop-byte-test.true (or_from (is_ascii_digit byte) (is_point byte) other no_point)

pub returns : goal.returns
returns c =
    let whole = take_all c.loop-byte.byte-index c.args.body.now (omega arith) in
    rw whole at c.loop-byte.invariant

pub overflow_add-points : goal.overflow_add-points
overflow_add-points c =
    let so_far = take c.loop-byte.byte-index c.args.body.now in
    omega (arith, c.loop-byte.invariant.2, count_by-le-length is_point so_far, length-take c.loop-byte.byte-index c.args.body.now)
