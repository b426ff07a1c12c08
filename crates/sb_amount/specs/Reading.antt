-- What a text is read as: the amount, or the first fault of the text.
use Rattle.std.specs.Prelude.{ℕ, ℤ, pos, neg_ℤ, nat_abs, nat_lt, ◌==◌, Bool, true, false, not, ◌&&◌, ◌||◌, if◌then◌else◌, Option, Some, None, Result, Ok, Err, List, [], ◌∷◌, length, count_by, filter, codes}
use Rattle.std.specs.Char.{is_ascii_digit}
use Rattle.std.specs.List.{list_all, before_first, after_first}
use Rattle.std.specs.Str.{bytes_eq}
use Rattle.std.specs.Str.Parse.{digits_value}
use Rattle.sb_amount.specs.declared.cents.TheConstants.{LIMIT}
use Rattle.sb_amount.specs.declared.fault.MoneyFault.{MoneyFault}
use Rattle.sb_amount.specs.declared.fault.MoneyFault.TheVariants.{Empty, NotDigit, BadDecimals, NotCanonical, TooLarge}

-- `.`
abbrev pub is_point : ℕ → Bool
is_point c = c == 46

abbrev pub is_negative : List ℕ → Bool
is_negative [] = false
is_negative (c ∷ cs) = c == 45

-- the text after one optional leading `-`
abbrev pub without_sign : List ℕ → List ℕ
without_sign [] = []
without_sign (c ∷ cs) = if c == 45 then cs else c ∷ cs

-- exactly one point, and exactly two bytes after it
abbrev pub has_two_decimals : List ℕ → Bool
has_two_decimals body = (count_by is_point body == 1) && (length (after_first is_point body) == 2)

-- one byte, or several whose first isn't `0`: of digits, those without leading zeros
abbrev pub is_canonical : List ℕ → Bool
is_canonical [] = false
is_canonical (d ∷ []) = true
is_canonical (d ∷ e ∷ ds) = not (d == 48)

-- the number that the digits spell, without the point
abbrev pub cents_of_digits : List ℕ → ℕ
cents_of_digits body = digits_value 10 (filter is_ascii_digit body)

-- the first fault in the order of the table
unfoldable pub money_fault : List ℕ → Option MoneyFault
money_fault text =
    let body = without_sign text in
    if length body == 0 then Some Empty
    else if not (list_all (λ c. is_ascii_digit c || is_point c) body) then Some NotDigit
    else if not (has_two_decimals body) then Some BadDecimals
    else if not (is_canonical (before_first is_point body)) || bytes_eq text (codes "-0.00") then Some NotCanonical
    else if nat_lt (nat_abs LIMIT) (cents_of_digits body) then Some TooLarge
    else None

-- the amount that a text without a fault spells
unfoldable pub amount_of : List ℕ → ℤ
amount_of text =
    let size = pos (cents_of_digits (without_sign text)) in
    if is_negative text then neg_ℤ size else size

-- the fault if there is one, else the value
abbrev pub unless_fault : {A E : Type 0} → Option E → A → Result A E
unless_fault None value = Ok value
unless_fault (Some fault) value = Err fault

-- the amount that a text spells, or its first fault
abbrev pub read_money : List ℕ → Result ℤ MoneyFault
read_money text = unless_fault (money_fault text) (amount_of text)
