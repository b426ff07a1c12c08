-- Each return is what the text is read as; the two laws follow from that.
use Rattle.std.proofs.Common.{rules, arith, ◌≡◌, length, sym, ◌∙◌, ap, true, false, not, codes, ℕ, pos, neg_ℤ, ◌+◌, ◌<◌, ◌^◌, ◌-ℤ◌, min, nat_abs, if◌then◌else◌, to_z, of_z, w64}
use Rattle.std.proofs.lemmas.Int.{ints}
use Rattle.std.proofs.lemmas.Bool.{or_left, or_right, or_from}
use Rattle.std.specs.List.{before_first}
use Rattle.std.specs.Str.{bytes_eq}
use Rattle.sb_amount.specs.declared.cents.TheConstants.{LIMIT}
use Rattle.sb_amount.specs.Reading.{is_point, without_sign, is_canonical, is_negative, cents_of_digits}
use Rattle.sb_amount.proofs.Faults.{HasBody, HasDecimals, read_money-empty, read_money-not_digit, read_money-bad_decimals, read_money-not_canonical, read_money-sized, spelled_from_read, taken_from_read}
use Rattle.sb_amount.proofs.cents.Cents.read.Goals as goal
use Rattle.sb_amount.proofs.cents.Cents.read.Goals.{then-not-is_canonical-via-then-not-is_canonical, then-not-is_canonical-via-else-not-is_canonical+then-eq, then-is_negative, else-is_negative}

pub returns-then-is_empty : goal.returns-then-is_empty
returns-then-is_empty c =
    let none : length (without_sign c.args.text.now) ≡ 0 = search rules in
    let read = read_money-empty c.args.text.now none in
    record { spelled = tt; complete = taken_from_read c.args.text.now _ (sym read); exact = sym read }

pub returns-in_default : goal.returns-in_default
returns-in_default c =
    let start : HasBody c.args.text.now c.split_sign-is_negative.result.1.now =
    record { is = c.split_sign-is_negative.ensures.body; some = sym c.is_empty.ensures ∙ c.if-is_empty.false } in
    let read = read_money-not_digit c.args.text.now _ start c.in_default.ensures in
    record { spelled = tt; complete = taken_from_read c.args.text.now _ (sym read); exact = sym read }

pub returns-in_default-whole_part : goal.returns-in_default-whole_part
returns-in_default-whole_part c =
    let start : HasBody c.args.text.now c.split_sign-is_negative.result.1.now =
    record { is = c.split_sign-is_negative.ensures.body; some = sym c.is_empty.ensures ∙ c.if-is_empty.false } in
    let read = read_money-bad_decimals c.args.text.now _ start c.in-Some.ensures.0 c.in_default-whole_part.ensures in
    record { spelled = tt; complete = taken_from_read c.args.text.now _ (sym read); exact = sym read }

pub returns-then-not-is_canonical : goal.returns-then-not-is_canonical
returns-then-not-is_canonical c =
    let text = c.args.text.now in
    let body = c.split_sign-is_negative.result.1.now in
    let start : HasBody text body = record { is = c.split_sign-is_negative.ensures.body; some = sym c.is_empty.ensures ∙ c.if-is_empty.false } in
    let parts = c.in-Some-whole_part.ensures in
    let passed : HasDecimals text body = record { start = start; bytes = c.in-Some.ensures.0; decimals = parts.0 } in
    let whole : is_canonical (before_first is_point body) ≡ c.is_canonical.result = ap is_canonical (sym parts.1) ∙ sym c.is_canonical.ensures in
    elim c.then-not-is_canonical.branch [
      | then-not-is_canonical-via-then-not-is_canonical w ↦
          let read = read_money-not_canonical text body passed
          (or_left (not (is_canonical (before_first is_point body))) (bytes_eq text (codes "-0.00")) (ap not (whole ∙ w.if-not-is_canonical.true))) in
          record { spelled = tt; complete = taken_from_read text _ (sym read); exact = sym read }
      | then-not-is_canonical-via-else-not-is_canonical+then-eq w ↦
          let same : bytes_eq text (codes "-0.00") ≡ true = ap (bytes_eq text) (sym w.as_slice.ensures) ∙ sym w.eq.ensures ∙ w.if-eq.true in
          let read = read_money-not_canonical text body passed
          (or_right (not (is_canonical (before_first is_point body))) (bytes_eq text (codes "-0.00")) same) in
          record { spelled = tt; complete = taken_from_read text _ (sym read); exact = sym read }
    ]

-- what the code's `-size` is, and `size`
minus_is : (n : ℕ) → n < 2 ^ 63 → to_z w64 (of_z w64 (pos 0 -ℤ to_z w64 (of_z w64 (pos n)))) ≡ neg_ℤ (pos n)
minus_is n small = omega (arith, ints)

plain_is : (n : ℕ) → n < 2 ^ 63 → to_z w64 (of_z w64 (pos n)) ≡ pos n
plain_is n small = omega (arith, ints)

pub returns : goal.returns
returns c =
    let text = c.args.text.now in
    let body = c.split_sign-is_negative.result.1.now in
    let start : HasBody text body = record { is = c.split_sign-is_negative.ensures.body; some = sym c.is_empty.ensures ∙ c.if-is_empty.false } in
    let parts = c.in-Some-whole_part.ensures in
    let passed : HasDecimals text body = record { start = start; bytes = c.in-Some.ensures.0; decimals = parts.0 } in
    let whole : is_canonical (before_first is_point body) ≡ c.is_canonical.result = ap is_canonical (sym parts.1) ∙ sym c.is_canonical.ensures in
    let differs : bytes_eq text (codes "-0.00") ≡ false = ap (bytes_eq text) (sym c.as_slice.ensures) ∙ sym c.eq.ensures ∙ c.if-eq.false in
    let canonical = or_from (not (is_canonical (before_first is_point body))) (bytes_eq text (codes "-0.00"))
    (ap not (whole ∙ c.if-not-is_canonical.false)) differs in
    let n = min (cents_of_digits body) (nat_abs LIMIT + 1) in
    let size : c.in-Some.size ≡ pos n = c.in-Some.size-is ∙ c.in-Some.ensures.1 in
    let x = to_z w64 c.if-is_negative.cents-bits in
    let signed : x ≡ (if is_negative text then neg_ℤ (pos n) else pos n) =
    elim c.if-is_negative.branch [
      | then-is_negative w ↦
          let minus : is_negative text ≡ true = sym c.split_sign-is_negative.ensures.sign ∙ w.if-is_negative.true in
          rw minus (w.cents-is ∙ ap (λ z. to_z w64 (of_z w64 (pos 0 -ℤ to_z w64 (of_z w64 z)))) size ∙ minus_is n (omega arith))
      | else-is_negative w ↦
          let plain : is_negative text ≡ false = sym c.split_sign-is_negative.ensures.sign ∙ w.if-is_negative.false in
          rw plain (w.cents-is ∙ ap (λ z. to_z w64 (of_z w64 z)) size ∙ plain_is n (omega arith))
    ] in
    let read = c.ok_or.ensures.value ∙ read_money-sized text body passed canonical x c.new.result signed c.new.ensures in
    record { spelled = spelled_from_read text c.ok_or.result read; complete = taken_from_read text c.ok_or.result read; exact = read }
