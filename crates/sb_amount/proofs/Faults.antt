-- What a text is read as, test by test, in the order of the faults.
use Rattle.std.proofs.Common.{◌≡◌, subst, IfOk, ℕ, ◌+◌, ◌<◌, ◌≤◌, min, nat_abs, ℤ, pos, neg_ℤ, Bool, true, false, not, ◌||◌, ◌==◌, nat_lt, if◌then◌else◌, Option, Some, None, Result, Ok, Err, SomeIff, inl, inr, List, length, codes, refl, sym, ap, ◌∙◌, arith}
use Rattle.std.proofs.lemmas.Bool.{eq-eqb, ltb-true, ltb-false, cases_Bool}
use Rattle.std.proofs.lemmas.Int.{ints}
use Rattle.std.specs.List.{list_all, before_first}
use Rattle.std.specs.Option.{ok_or}
use Rattle.std.specs.Str.{bytes_eq}
use Rattle.sb_amount.specs.declared.cents.TheConstants.{LIMIT}
use Rattle.sb_amount.specs.declared.fault.MoneyFault.{MoneyFault}
use Rattle.sb_amount.specs.declared.fault.MoneyFault.TheVariants.{Empty, NotDigit, BadDecimals, NotCanonical, TooLarge}
use Rattle.sb_amount.specs.Limit.{IsWithinLimit}
use Rattle.sb_amount.specs.Money.{money}
use Rattle.sb_amount.specs.Reading.{is_point, is_negative, without_sign, has_two_decimals, is_canonical, cents_of_digits, money_fault, amount_of, read_money}
use Rattle.sb_amount.proofs.MoneyBodies.{is_body_byte}
use Rattle.sb_amount.proofs.Money.{read_money-money, money_from_read}

-- nothing follows the sign
pub read_money-empty : (text : List ℕ) → length (without_sign text) ≡ 0 → read_money text ≡ Err Empty
unfolding money_fault
read_money-empty text none = let empty : (length (without_sign text) == 0) ≡ true = eq-eqb (length (without_sign text)) 0 none in rw empty

-- the tests that a text has passed so far
pub record HasBody (text body : List ℕ) : Type 0 where
  pub is : body ≡ without_sign text
  pub some : (length body == 0) ≡ false

-- a byte that is neither a digit nor a point
pub read_money-not_digit : (text body : List ℕ) → HasBody text body → list_all is_body_byte body ≡ false → read_money text ≡ Err NotDigit
unfolding money_fault
read_money-not_digit text body h other = rw (sym h.is, h.some, other)

-- not one point with two bytes after it
pub read_money-bad_decimals : (text body : List ℕ) → HasBody text body → list_all is_body_byte body ≡ true → has_two_decimals body ≡ false
    → read_money text ≡ Err BadDecimals
unfolding money_fault
read_money-bad_decimals text body h bytes bad = rw (sym h.is, h.some, bytes, bad)

-- the decimals are right too
pub record HasDecimals (text body : List ℕ) : Type 0 where
  pub start : HasBody text body
  pub bytes : list_all is_body_byte body ≡ true
  pub decimals : has_two_decimals body ≡ true

-- an amount that has another spelling
pub read_money-not_canonical : (text body : List ℕ) → HasDecimals text body
    → (not (is_canonical (before_first is_point body)) || bytes_eq text (codes "-0.00")) ≡ true → read_money text ≡ Err NotCanonical
unfolding money_fault
read_money-not_canonical text body h other = rw (sym h.start.is, h.start.some, h.bytes, h.decimals, other)

-- the amount that the digits spell, or that it is too large
read_money-last : (text body : List ℕ) → HasDecimals text body → (not (is_canonical (before_first is_point body)) || bytes_eq text (codes "-0.00")) ≡ false
    → read_money text ≡ (if nat_lt 1000000000000 (cents_of_digits body) then Err TooLarge else Ok (amount_of text))
unfolding money_fault
read_money-last text body h canonical =
    elim (cases_Bool (nat_lt 1000000000000 (cents_of_digits body))) [
      | inl large ↦ rw (sym h.start.is, h.start.some, h.bytes, h.decimals, canonical, large)
      | inr small ↦ rw (sym h.start.is, h.start.some, h.bytes, h.decimals, canonical, small)
    ]

-- a size within the limit is the one that is spelled, with either sign
signed_size-small : (n : ℕ) (minus : Bool) → n ≤ 1000000000000 → IsWithinLimit (if minus then neg_ℤ (pos n) else pos n)
signed_size-small n false small = record { at_least = omega (arith, ints); at_most = omega (arith, ints) }
signed_size-small n true small = record { at_least = omega (arith, ints); at_most = omega (arith, ints) }

-- and one above it is not within it
signed_size-large : (n : ℕ) (minus : Bool) → 1000000000000 < n → IsWithinLimit (if minus then neg_ℤ (pos n) else pos n) → ⊥
signed_size-large n false large h = let most = h.at_most in omega (arith, ints)
signed_size-large n true large h = let least = h.at_least in omega (arith, ints)

-- what a test of the limit gives
some_within : (o : Option ℤ) (x : ℤ) → SomeIff o (IsWithinLimit x) x → IsWithinLimit x → o ≡ Some x
some_within None x h within = absurd (h within)
some_within (Some y) x h within = ap Some h.1

none_past : (o : Option ℤ) (x : ℤ) → SomeIff o (IsWithinLimit x) x → (IsWithinLimit x → ⊥) → o ≡ None
none_past None x h past = refl
none_past (Some y) x h past = absurd (past h.0)

-- the limit is tested on the size with its sign; the size stops one above the limit
pub read_money-sized : (text body : List ℕ) → HasDecimals text body → (not (is_canonical (before_first is_point body)) || bytes_eq text (codes "-0.00")) ≡ false
    → (x : ℤ) (o : Option ℤ) → x ≡ (if is_negative text then neg_ℤ (pos (min (cents_of_digits body) (nat_abs LIMIT + 1)))
    else pos (min (cents_of_digits body) (nat_abs LIMIT + 1))) → SomeIff o (IsWithinLimit x) x → ok_or o TooLarge ≡ read_money text
unfolding amount_of
read_money-sized text body h canonical x o signed limited =
    let n = cents_of_digits body in
    let minus = is_negative text in
    let read = read_money-last text body h canonical in
    elim (cases_Bool (nat_lt 1000000000000 n)) [
      | inl large ↦
          let above : 1000000000000 < n = ltb-true 1000000000000 n large in
          let past : IsWithinLimit x → ⊥ = λ within. signed_size-large (min n (nat_abs LIMIT + 1)) minus (omega arith) (subst IsWithinLimit signed within) in
          let read_large : read_money text ≡ Err TooLarge = read ∙ rw large in
          ap (λ found. ok_or found TooLarge) (none_past o x limited past) ∙ sym read_large
      | inr within ↦
          let small : n ≤ 1000000000000 = ltb-false 1000000000000 n within in
          let least : min n (nat_abs LIMIT + 1) ≡ n = omega arith in
          let is : x ≡ (if minus then neg_ℤ (pos n) else pos n) = signed ∙ ap (λ k. if minus then neg_ℤ (pos k) else pos k) least in
          let read_small : read_money text ≡ Ok (if minus then neg_ℤ (pos n) else pos n) = read ∙ rw within (rw (sym h.start.is)) in
          ap (λ found. ok_or found TooLarge) (some_within o x limited (subst IsWithinLimit (sym is) (signed_size-small n minus small))) ∙ ap Ok is
          ∙ sym read_small
    ]

-- ---- the clauses on a result, from what it is

-- a text that is read spells the amount
pub spelled_from_read : (text : List ℕ) (r : Result ℤ MoneyFault) → r ≡ read_money text → IfOk r (λ amount. text ≡ money amount)
spelled_from_read text (Ok v) h = (money_from_read text v (sym h)).0
spelled_from_read text (Err fault) h = tt

-- a text that spells an amount is read
pub taken_from_read : (text : List ℕ) (r : Result ℤ MoneyFault) → r ≡ read_money text → (v : ℤ) → IsWithinLimit v → text ≡ money v → r ≡ Ok v
taken_from_read text r h v within e = h ∙ ap read_money e ∙ read_money-money v within
