-- Texts of digits, a point and two digits: a money text without its sign.
use Rattle.std.proofs.Common.{◌≡◌, ◌≢◌, ℕ, ◌+◌, ◌-◌, ◌*◌, ◌/◌, ◌%◌, ◌<◌, ◌≤◌, ◌^◌, Bool, true, false, ◌||◌, ◌==◌, inl, inr, List, [], ◌∷◌, ◌++◌, length, length-drop, get_or, take, refl, sym, ap, ◌∙◌, arith, decimal, append_assoc}
use Rattle.std.proofs.lemmas.Bool.{and_parts, and_from, or_left, or_cases, eqb-true, eq-eqb, ne_eqb, and_left, and_right}
use Rattle.std.proofs.lemmas.Fmt.{digits_value-decimal}
use Rattle.std.proofs.lemmas.Int.Digits.{digits_value_push}
use Rattle.std.proofs.lemmas.List.Folds.{list_all-append}
use Rattle.std.proofs.lemmas.List.Sums.{passes_at_first}
use Rattle.std.specs.Char.{is_ascii_digit}
use Rattle.std.specs.Int.{IsInRange}
use Rattle.std.specs.List.{list_all, filter, count_by, before_first, after_first, position_or_len}
use Rattle.std.specs.Str.Parse.{digits_value}
use Rattle.sb_amount.specs.Money.{unsigned_money}
use Rattle.sb_amount.specs.Reading.{is_point, has_two_decimals, is_canonical, cents_of_digits}
use Rattle.sb_amount.proofs.Digits.{all_digits, digit_range, digit_from_range, digit_value-digit, is_point-digit, NonePasses-digits, numerals, all_digits-decimal, filter-digits, decimal-canonical}
use Rattle.sb_amount.proofs.Points.{NonePasses, before_first-at, after_first-at, count_by-none, count_by-at, cut_at_first, NonePasses-from_count, IsCutAt-only}

-- what may stand in a body
abbrev pub is_body_byte : ℕ → Bool
is_body_byte c = is_ascii_digit c || is_point c

-- a whole part, a point and two decimals
abbrev pub body_of : List ℕ → ℕ → ℕ → List ℕ
body_of whole tens ones = whole ++ 46 ∷ tens ∷ ones ∷ []

-- its parts are digits
pub record HasDigits (whole : List ℕ) (tens ones : ℕ) : Type 0 where
  pub whole_digits : all_digits whole ≡ true
  pub tens_digit : is_ascii_digit tens ≡ true
  pub ones_digit : is_ascii_digit ones ≡ true

-- digits may stand in a body
all_body_bytes-digits : (ds cs : List ℕ) → all_digits ds ≡ true → list_all is_body_byte cs ≡ true → list_all is_body_byte (ds ++ cs) ≡ true
all_body_bytes-digits [] cs h more = more
all_body_bytes-digits (d ∷ ds) cs h more =
    let both = and_parts (is_ascii_digit d) (all_digits ds) h in
    let rest = all_body_bytes-digits ds cs both.1 more in
    and_from (is_body_byte d) (list_all is_body_byte (ds ++ cs)) (or_left (is_ascii_digit d) (is_point d) both.0) rest

pub all_body_bytes-body : (whole : List ℕ) (tens ones : ℕ) → HasDigits whole tens ones → list_all is_body_byte (body_of whole tens ones) ≡ true
all_body_bytes-body whole tens ones h =
    all_body_bytes-digits whole (46 ∷ tens ∷ ones ∷ []) h.whole_digits (rw (h.tens_digit, h.ones_digit))

-- the whole part is what comes before the point
pub before_first-body : (whole : List ℕ) (tens ones : ℕ) → HasDigits whole tens ones → before_first is_point (body_of whole tens ones) ≡ whole
before_first-body whole tens ones h = before_first-at is_point whole 46 (tens ∷ ones ∷ []) (NonePasses-digits whole h.whole_digits) refl

-- there is one point, and two bytes after it
pub has_two_decimals-body : (whole : List ℕ) (tens ones : ℕ) → HasDigits whole tens ones → has_two_decimals (body_of whole tens ones) ≡ true
has_two_decimals-body whole tens ones h =
    let none = NonePasses-digits whole h.whole_digits in
    let points = count_by-at is_point whole 46 (tens ∷ ones ∷ []) none refl in
    let after = after_first-at is_point whole 46 (tens ∷ ones ∷ []) none refl in
    let tens_no = is_point-digit tens h.tens_digit in
    let ones_no = is_point-digit ones h.ones_digit in
    rw (points, after, tens_no, ones_no)

-- ---- the decimals, from how many points there are and the third byte from the end

pub has_two_decimals-yes : (body : List ℕ) → 3 ≤ length body → get_or body (length body - 3) 0 ≡ 46 → count_by is_point body ≡ 1
    → (has_two_decimals body ≡ true) × (take (length body - 3) body ≡ before_first is_point body)
has_two_decimals-yes body long point one =
    let cut = IsCutAt-only is_point body (length body - 3) 0 (omega arith) (eq-eqb (get_or body (length body - 3) 0) 46 point) one in
    let two : length (after_first is_point body) ≡ 2 = omega (arith, ap {B = ℕ} length cut.after, length-drop (length body - 3 + 1) body) in (
      and_from (count_by is_point body == 1) (length (after_first is_point body) == 2) (eq-eqb (count_by is_point body) 1 one)
          (eq-eqb (length (after_first is_point body)) 2 two),
      cut.before,
    )

pub has_two_decimals-points : (body : List ℕ) → count_by is_point body ≢ 1 → has_two_decimals body ≡ false
has_two_decimals-points body other = and_left (count_by is_point body == 1) (length (after_first is_point body) == 2) (ne_eqb (count_by is_point body) 1 other)

-- if two bytes follow the first point, it is the third byte from the end
third_from_end : (body : List ℕ) → length (after_first is_point body) ≡ 2 → (3 ≤ length body) × (get_or body (length body - 3) 0 ≡ 46)
third_from_end body two =
    let i = position_or_len is_point body in
    let after = length-drop (i + 1) body in
    let point = eqb-true (get_or body i 0) 46 (passes_at_first is_point body 0 (omega (arith, after, two))) in
    let place : length body - 3 ≡ i = omega (arith, after, two) in
    (omega (arith, after, two), ap (λ k. get_or body k 0) place ∙ point)

pub has_two_decimals-short : (body : List ℕ) → length body < 3 → has_two_decimals body ≡ false
has_two_decimals-short body short =
    and_right (count_by is_point body == 1) (length (after_first is_point body) == 2)
    (ne_eqb (length (after_first is_point body)) 2 (λ two. omega (arith, (third_from_end body two).0)))

pub has_two_decimals-other : (body : List ℕ) → get_or body (length body - 3) 0 ≢ 46 → has_two_decimals body ≡ false
has_two_decimals-other body other =
    and_right (count_by is_point body == 1) (length (after_first is_point body) == 2)
    (ne_eqb (length (after_first is_point body)) 2 (λ two. other (third_from_end body two).1))

-- two more digits
digits_value-push_two : (ds : List ℕ) (tens ones : ℕ) → is_ascii_digit tens ≡ true → is_ascii_digit ones ≡ true
    → digits_value 10 (ds ++ tens ∷ ones ∷ []) ≡ digits_value 10 ds * 100 + (tens - 48) * 10 + (ones - 48)
digits_value-push_two ds tens ones t o =
    let t_range : IsInRange 48 57 tens = digit_range tens t in
    let o_range : IsInRange 48 57 ones = digit_range ones o in
    let t_value = digit_value-digit tens t_range.0 t_range.1 in
    let o_value = digit_value-digit ones o_range.0 o_range.1 in
    let first = digits_value_push 10 ds tens in
    let second = digits_value_push 10 (ds ++ tens ∷ []) ones in
    let apart = ap (digits_value 10) (append_assoc ds (tens ∷ []) (ones ∷ [])) in
    omega (arith, apart, first, second, t_value, o_value)

-- the number that a body spells
pub cents_of_digits-body : (whole : List ℕ) (tens ones : ℕ) → HasDigits whole tens ones
    → cents_of_digits (body_of whole tens ones) ≡ digits_value 10 whole * 100 + (tens - 48) * 10 + (ones - 48)
cents_of_digits-body whole tens ones h =
    let kept = filter-digits whole (46 ∷ tens ∷ ones ∷ []) h.whole_digits in
    let decimals : filter is_ascii_digit (46 ∷ tens ∷ ones ∷ []) ≡ tens ∷ ones ∷ [] = rw (h.tens_digit, h.ones_digit) in
    let spelled : filter is_ascii_digit (body_of whole tens ones) ≡ whole ++ tens ∷ ones ∷ [] = kept ∙ ap (λ cs. whole ++ cs) decimals in
    ap (digits_value 10) spelled ∙ digits_value-push_two whole tens ones h.tens_digit h.ones_digit

-- ---- a body, from its tests

-- bytes of a body with no point among them are digits
all_digits-body_bytes : (ds : List ℕ) → list_all is_body_byte ds ≡ true → NonePasses is_point ds → all_digits ds ≡ true
all_digits-body_bytes [] h none = refl
all_digits-body_bytes (d ∷ ds) h none =
    let both = and_parts (is_body_byte d) (list_all is_body_byte ds) h in
    let rest = all_digits-body_bytes ds both.1 none.1 in
    elim (or_cases (is_ascii_digit d) (is_point d) both.0) [
      | inl digit ↦ and_from (is_ascii_digit d) (all_digits ds) digit rest
      | inr point ↦ let never = none.0 in cc
    ]

-- a list of two has two elements
two_elements : (ys : List ℕ) → length ys ≡ 2 → (a : ℕ) × (b : ℕ) × (ys ≡ a ∷ b ∷ [])
two_elements [] h = absurd (omega arith)
two_elements (a ∷ []) h = absurd (omega arith)
two_elements (a ∷ b ∷ []) h = (a, b, refl)
two_elements (a ∷ b ∷ c ∷ ys) h = absurd (omega arith)

-- a text that passes the tests is a whole part, a point and two decimals
pub body_parts : (body : List ℕ) → list_all is_body_byte body ≡ true → has_two_decimals body ≡ true
    → (whole : List ℕ) × (tens : ℕ) × (ones : ℕ) × (body ≡ body_of whole tens ones) × HasDigits whole tens ones
body_parts body bytes decimals =
    let both = and_parts (count_by is_point body == 1) (length (after_first is_point body) == 2) decimals in
    let one : count_by is_point body ≡ 1 = eqb-true (count_by is_point body) 1 both.0 in
    let two : length (after_first is_point body) ≡ 2 = eqb-true (length (after_first is_point body)) 2 both.1 in
    elim (cut_at_first is_point body) [
      | inl none ↦ absurd (omega (arith, one, count_by-none is_point body none))
      | inr cut ↦
          let ws = cut.0 in let y = cut.1 in let ys = cut.2 in
          let point : y ≡ 46 = eqb-true y 46 cut.5 in
          let count = ap (count_by is_point) cut.3 ∙ count_by-at is_point ws y ys cut.4 cut.5 in
          let none : NonePasses is_point ys = NonePasses-from_count is_point ys (omega (arith, one, count)) in
          let after = ap (after_first is_point) cut.3 ∙ after_first-at is_point ws y ys cut.4 cut.5 in
          let ends = two_elements ys (ap {B = ℕ} length (sym after) ∙ two) in
          let pieces = and_parts (list_all is_body_byte ws) (list_all is_body_byte (y ∷ ys))
          (sym (list_all-append is_body_byte ws (y ∷ ys)) ∙ ap (list_all is_body_byte) (sym cut.3) ∙ bytes) in
          let rest = and_parts (is_body_byte y) (list_all is_body_byte ys) pieces.1 in
          let last : all_digits (ends.0 ∷ ends.1 ∷ []) ≡ true = ap all_digits (sym ends.2) ∙ all_digits-body_bytes ys rest.1 none in
          let first_of_last = and_parts (is_ascii_digit ends.0) (all_digits (ends.1 ∷ [])) last in
          let second_of_last = and_parts (is_ascii_digit ends.1) (all_digits []) first_of_last.1 in (
            ws,
            ends.0,
            ends.1,
            cut.3 ∙ ap (λ c. ws ++ c ∷ ys) point ∙ ap (λ cs. ws ++ 46 ∷ cs) ends.2,
            record { whole_digits = all_digits-body_bytes ws pieces.0 cut.4; tens_digit = first_of_last.0; ones_digit = second_of_last.0 },
          )
    ]

-- ---- the text of a number

-- the decimals of a number are digits
pub HasDigits-unsigned_money : (n : ℕ) → n / 100 < 2 ^ 64 → HasDigits (decimal (n / 100)) (48 + n % 100 / 10) (48 + n % 100 % 10)
HasDigits-unsigned_money n small = record {
  whole_digits = all_digits-decimal (n / 100) small;
  tens_digit = digit_from_range (48 + n % 100 / 10) (omega arith) (omega arith);
  ones_digit = digit_from_range (48 + n % 100 % 10) (omega arith) (omega arith);
}

-- the text of a number spells it
pub cents_of_digits-unsigned_money : (n : ℕ) → n / 100 < 2 ^ 64 → cents_of_digits (unsigned_money n) ≡ n
cents_of_digits-unsigned_money n small =
    let spelled = cents_of_digits-body (decimal (n / 100)) (48 + n % 100 / 10) (48 + n % 100 % 10) (HasDigits-unsigned_money n small) in
    let whole = digits_value-decimal numerals (n / 100) small in
    omega (arith, spelled, whole)

-- a canonical body is the text of the number that it spells
pub unsigned_money-body : (whole : List ℕ) (tens ones : ℕ) → HasDigits whole tens ones → is_canonical whole ≡ true
    → cents_of_digits (body_of whole tens ones) < 2 ^ 64 → unsigned_money (cents_of_digits (body_of whole tens ones)) ≡ body_of whole tens ones
unsigned_money-body whole tens ones h canonical small =
    let n = cents_of_digits (body_of whole tens ones) in
    let spelled = cents_of_digits-body whole tens ones h in
    let t_range : IsInRange 48 57 tens = digit_range tens h.tens_digit in
    let o_range : IsInRange 48 57 ones = digit_range ones h.ones_digit in
    let whole_is : n / 100 ≡ digits_value 10 whole = omega (arith, spelled) in
    let tens_is : 48 + n % 100 / 10 ≡ tens = omega (arith, spelled) in
    let ones_is : 48 + n % 100 % 10 ≡ ones = omega (arith, spelled) in
    let written : decimal (n / 100) ≡ whole = ap decimal whole_is ∙ decimal-canonical whole h.whole_digits canonical (omega (arith, spelled)) in
    rw (written, tens_is, ones_is)
