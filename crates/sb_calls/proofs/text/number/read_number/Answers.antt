-- A digit multiplies the number by ten and adds its value.
use Rattle.std.proofs.Common.{◌≡◌, true, get_or, take, sym, ◌∙◌, arith}
use Rattle.std.specs.Char.{is_ascii_digit}
use Rattle.std.specs.List.{list_all}
use Rattle.std.specs.Int.{IsInRange}
use Rattle.std.proofs.lemmas.Bool.{and_from}
use Rattle.std.proofs.lemmas.Int.Digits.{digits_value_more}
use Rattle.std.proofs.lemmas.List.Folds.{list_all_more}
use Rattle.sb_amount.proofs.Digits.{digit_range, digit_value-digit}
use Rattle.sb_calls.proofs.text.number.read_number.Goals as goal

pub loop-byte-preserved : goal.loop-byte-preserved
loop-byte-preserved c =
    let text = c.args.text.now in
    let i = c.loop-byte.byte-index in
    let digit : is_ascii_digit (get_or text i 0) ≡ true = sym c.is_ascii_digit.ensures.value ∙ c.if-not-is_ascii_digit.false in
    let range : IsInRange 48 57 (get_or text i 0) = digit_range (get_or text i 0) digit in
    let more = digits_value_more 10 text i c.loop-byte-test.true in
    let value = digit_value-digit (get_or text i 0) range.0 range.1 in
    record {
      digits = list_all_more is_ascii_digit text i 0 c.loop-byte-test.true
          ∙ and_from (list_all is_ascii_digit (take i text)) (is_ascii_digit (get_or text i 0)) c.loop-byte.invariant.digits digit;
      value = omega (arith, more, value);
    }
