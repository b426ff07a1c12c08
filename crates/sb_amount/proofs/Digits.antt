-- Digits, and lists of them.
use Rattle.std.proofs.Common.{rules, ◌≡◌, inl, inr, ℕ, ◌+◌, ◌-◌, ◌*◌, ◌<◌, ◌≤◌, ◌^◌, Bool, true, false, List, [], ◌∷◌, ◌++◌, length, get_or, refl, ap, ◌∙◌, arith, decimal, take, append-nil}
use Rattle.std.proofs.lemmas.Grind.{common_steps}
use Rattle.std.proofs.lemmas.Bool.{cases_eq, and_parts}
use Rattle.std.proofs.lemmas.Bool.Decides.{nat_tests}
use Rattle.std.proofs.lemmas.Fmt.{digits_decimal, decimal-digits_value, first_decimal, decimal_digit}
use Rattle.std.proofs.lemmas.Int.Digits.{digits_value_push}
use Rattle.std.proofs.lemmas.List.Elements.{filter_more}
use Rattle.std.proofs.lemmas.Str.Parse.{IsNumeralModel, numerals_by_value}
use Rattle.std.specs.Char.{is_ascii_digit, digit_value}
use Rattle.std.specs.Int.{IsInRange}
use Rattle.std.specs.List.{list_all, filter}
use Rattle.std.specs.Str.Parse.{digits_value}
use Rattle.sb_amount.specs.Reading.{is_point, is_canonical, cents_of_digits}
use Rattle.sb_amount.proofs.Points.{NonePasses}

-- each of the list is a digit
abbrev pub all_digits : List ℕ → Bool
all_digits ds = list_all is_ascii_digit ds

-- what the test for a digit says
pub digit_range : (c : ℕ) → is_ascii_digit c ≡ true → IsInRange 48 57 c
digit_range c h = grind (arith, nat_tests)

pub digit_from_range : (c : ℕ) → 48 ≤ c → c ≤ 57 → is_ascii_digit c ≡ true
digit_from_range c low high = grind (arith, nat_tests)

-- the number that a digit stands for
pub digit_value-digit : (c : ℕ) → 48 ≤ c → c ≤ 57 → digit_value c ≡ c - 48
digit_value-digit c low high = grind (arith, nat_tests)

-- a digit isn't a point
pub is_point-digit : (c : ℕ) → is_ascii_digit c ≡ true → is_point c ≡ false
is_point-digit c h = let r : IsInRange 48 57 c = digit_range c h in grind (arith, nat_tests)

-- digits have no point among them
pub NonePasses-digits : (ds : List ℕ) → all_digits ds ≡ true → NonePasses is_point ds
NonePasses-digits [] h = tt
NonePasses-digits (d ∷ ds) h = let both = and_parts (is_ascii_digit d) (all_digits ds) h in (is_point-digit d both.0, NonePasses-digits ds both.1)

-- `decimal` and `digits_value` are inverse on lists of digits
pub numerals : IsNumeralModel (λ ds. all_digits ds ≡ true) (digits_value 10)
numerals = numerals_by_value (λ ds. all_digits ds ≡ true) (search rules)

pub all_digits-decimal : (n : ℕ) → n < 2 ^ 64 → all_digits (decimal n) ≡ true
all_digits-decimal n small = digits_decimal numerals n small

-- a filter for digits keeps digits
pub filter-digits : (ds cs : List ℕ) → all_digits ds ≡ true → filter is_ascii_digit (ds ++ cs) ≡ ds ++ filter is_ascii_digit cs
filter-digits [] cs h = refl
filter-digits (d ∷ ds) cs h =
    let both = and_parts (is_ascii_digit d) (all_digits ds) h in
    rw (both.0, filter-digits ds cs both.1)

-- a list whose first digit isn't 0 is canonical
is_canonical-from_first : (ds : List ℕ) → 48 < get_or ds 0 0 → is_canonical ds ≡ true
is_canonical-from_first [] h = absurd (omega arith)
is_canonical-from_first (d ∷ []) h = refl
is_canonical-from_first (d ∷ e ∷ ds) h = let above : 48 < d = h in grind (arith, nat_tests)

-- what `decimal` writes has no leading zero
pub is_canonical-decimal : (n : ℕ) → n < 2 ^ 64 → is_canonical (decimal n) ≡ true
is_canonical-decimal n small =
    elim (cases_eq n 0) [
      | inl zero_is ↦ rw zero_is (rw (decimal_digit 0 (omega arith)))
      | inr above ↦ is_canonical-from_first (decimal n) (first_decimal n (omega (arith, above)) small)
    ]

-- a canonical list begins with 0 only if that is its one digit
one_from_zero : (ds : List ℕ) → is_canonical ds ≡ true → get_or ds 0 0 ≡ 48 → length ds ≡ 1
one_from_zero [] h e = cc
one_from_zero (d ∷ []) h e = refl
one_from_zero (d ∷ e ∷ ds) h first = let same : d ≡ 48 = first in absurd (grind (arith, nat_tests))

nonempty_from_canonical : (ds : List ℕ) → is_canonical ds ≡ true → 0 < length ds
nonempty_from_canonical [] h = cc
nonempty_from_canonical (d ∷ ds) h = grind (arith, common_steps)

-- digits with no leading zero are what `decimal` writes
pub decimal-canonical : (ds : List ℕ) → all_digits ds ≡ true → is_canonical ds ≡ true → digits_value 10 ds < 2 ^ 64 → decimal (digits_value 10 ds) ≡ ds
decimal-canonical ds digits canonical small =
    decimal-digits_value numerals ds digits (nonempty_from_canonical ds canonical) (one_from_zero ds canonical) small

-- the number spelled so far, with one more byte: a digit adds to it
pub cents_of_digits-more_digit : (body : List ℕ) (i : ℕ) → i < length body → is_ascii_digit (get_or body i 0) ≡ true
    → cents_of_digits (take (i + 1) body) ≡ cents_of_digits (take i body) * 10 + (get_or body i 0 - 48)
cents_of_digits-more_digit body i h digit =
    let range : IsInRange 48 57 (get_or body i 0) = digit_range (get_or body i 0) digit in
    let value = digit_value-digit (get_or body i 0) range.0 range.1 in
    let kept : filter is_ascii_digit (take (i + 1) body) ≡ filter is_ascii_digit (take i body) ++ get_or body i 0 ∷ [] = filter_more is_ascii_digit body i 0 h
    ∙ rw digit in
    ap (digits_value 10) kept ∙ digits_value_push 10 (filter is_ascii_digit (take i body)) (get_or body i 0) ∙ rw value

-- and any other byte doesn't
pub cents_of_digits-more_other : (body : List ℕ) (i : ℕ) → i < length body → is_ascii_digit (get_or body i 0) ≡ false
    → cents_of_digits (take (i + 1) body) ≡ cents_of_digits (take i body)
cents_of_digits-more_other body i h other =
    let kept : filter is_ascii_digit (take (i + 1) body) ≡ filter is_ascii_digit (take i body) = filter_more is_ascii_digit body i 0 h
    ∙ rw other (append-nil (filter is_ascii_digit (take i body))) in
    ap (digits_value 10) kept
