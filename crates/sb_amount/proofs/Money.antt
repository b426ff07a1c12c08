-- Money text is read as the number that it spells, and nothing else is read.
use Rattle.std.proofs.Common.{◌≡◌, subst, ℕ, zero, suc, ◌+◌, ◌/◌, ◌%◌, ◌<◌, ◌≤◌, ◌^◌, ℤ, pos, negsuc, neg_ℤ, nat_abs, ◌≤ℤ◌, ◌<ℤ◌, Bool, true, false, not, ◌||◌, ◌==◌, nat_lt, if◌then◌else◌, inl, inr, Some, None, Ok, List, [], ◌∷◌, ◌++◌, length, codes, refl, sym, ap, ◌∙◌, arith, decimal}
use Rattle.std.proofs.lemmas.Bool.{and_parts, and_from, or_left, not_from_false, or_parts, eqb-true, ne_eqb, cases_Bool, false_from_ne_true, not-false, le-ltb, ltb-false, both_ways}
use Rattle.std.proofs.lemmas.Bool.Decides.{nat_tests}
use Rattle.std.proofs.lemmas.Fmt.{decimal_digit, decimal_nonempty}
use Rattle.std.proofs.lemmas.Grind.{common_steps}
use Rattle.std.proofs.lemmas.Int.{ints}
use Rattle.std.proofs.lemmas.Slice.Eq.{bytes_eq-Decides}
use Rattle.std.specs.Char.{is_ascii_digit}
use Rattle.std.specs.Int.{IsInRange}
use Rattle.std.specs.List.{list_all, before_first}
use Rattle.std.specs.Str.{bytes_eq}
use Rattle.sb_amount.specs.declared.cents.TheConstants.{LIMIT}
use Rattle.sb_amount.specs.declared.fault.MoneyFault.TheVariants.{Empty, NotDigit, BadDecimals, NotCanonical, TooLarge}
use Rattle.sb_amount.specs.Limit.{IsWithinLimit}
use Rattle.sb_amount.specs.Money.{money, unsigned_money}
use Rattle.sb_amount.specs.Reading.{is_point, is_negative, without_sign, has_two_decimals, is_canonical, cents_of_digits, money_fault, amount_of, unless_fault, read_money}
use Rattle.sb_amount.proofs.MoneyBodies.{is_body_byte, body_of, all_body_bytes-body, before_first-body, has_two_decimals-body, body_parts, HasDigits-unsigned_money, cents_of_digits-unsigned_money, unsigned_money-body}
use Rattle.sb_amount.proofs.Digits.{all_digits, digit_range, is_canonical-decimal, all_digits-decimal}

-- ---- the sign

-- money text of a number below 0
pub money-negative : (v : ℤ) → v <ℤ pos 0 → money v ≡ 45 ∷ unsigned_money (nat_abs v)
unfolding money
money-negative (pos n) h = absurd (omega (arith, ints))
money-negative (negsuc n) h = refl

-- money text of a number that isn't below 0
pub money-unsigned : (v : ℤ) → pos 0 ≤ℤ v → money v ≡ unsigned_money (nat_abs v)
unfolding money
money-unsigned (pos n) h = refl
money-unsigned (negsuc n) h = absurd (omega (arith, ints))

-- a text that begins with a digit has no sign
is_negative-digits : (ds cs : List ℕ) → 0 < length ds → all_digits ds ≡ true → is_negative (ds ++ cs) ≡ false
is_negative-digits [] cs some h = absurd (omega arith)
is_negative-digits (d ∷ ds) cs some h =
    let both = and_parts (is_ascii_digit d) (all_digits ds) h in
    let range : IsInRange 48 57 d = digit_range d both.0 in
    grind (arith, nat_tests)

without_sign-unsigned : (text : List ℕ) → is_negative text ≡ false → without_sign text ≡ text
without_sign-unsigned [] h = refl
without_sign-unsigned (c ∷ cs) h = rw h

is_negative-unsigned_money : (n : ℕ) → n / 100 < 2 ^ 64 → is_negative (unsigned_money n) ≡ false
is_negative-unsigned_money n small =
    is_negative-digits (decimal (n / 100)) (46 ∷ (48 + n % 100 / 10) ∷ (48 + n % 100 % 10) ∷ []) (decimal_nonempty (n / 100) small)
    (all_digits-decimal (n / 100) small)

-- ---- a text without a fault

-- no test fails
no_fault : (a b c d e : Bool)
    → (if a then Some Empty else if b then Some NotDigit else if c then Some BadDecimals else if d then Some NotCanonical else if e then Some TooLarge
    else None) ≡ None → (a ≡ false) × (b ≡ false) × (c ≡ false) × (d ≡ false) × (e ≡ false)
no_fault true b c d e h = cc
no_fault false true c d e h = cc
no_fault false false true d e h = cc
no_fault false false false true e h = cc
no_fault false false false false true h = cc
no_fault false false false false false h = (refl, refl, refl, refl, refl)

-- the text of a number within the limit has no fault
money_fault-none : (text : List ℕ) (n : ℕ) → without_sign text ≡ unsigned_money n → n ≤ 1000000000000 → bytes_eq text (codes "-0.00") ≡ false
    → money_fault text ≡ None
unfolding money_fault
money_fault-none text n body small differs =
    let digits = HasDigits-unsigned_money n (omega arith) in
    let whole = decimal (n / 100) in
    let tens = 48 + n % 100 / 10 in
    let ones = 48 + n % 100 % 10 in
    let empty : (length (unsigned_money n) == 0) ≡ false = grind (arith, common_steps, nat_tests) in
    let bytes = all_body_bytes-body whole tens ones digits in
    let decimals = has_two_decimals-body whole tens ones digits in
    let canonical = ap is_canonical (before_first-body whole tens ones digits) ∙ is_canonical-decimal (n / 100) (omega arith) in
    let fits : nat_lt 1000000000000 (cents_of_digits (unsigned_money n)) ≡ false =
    rw (cents_of_digits-unsigned_money n (omega arith)) (le-ltb 1000000000000 n small) in
    rw (body, empty, bytes, decimals, canonical, differs, fits)

-- the spelling of zero that is refused
minus_zero-unsigned : (n : ℕ) → n / 100 < 2 ^ 64 → bytes_eq (unsigned_money n) (codes "-0.00") ≡ false
minus_zero-unsigned n small =
    false_from_ne_true (bytes_eq (unsigned_money n) (codes "-0.00")) (λ yes.
    let same : unsigned_money n ≡ codes "-0.00" = (bytes_eq-Decides (unsigned_money n) (codes "-0.00")).0 yes in
    both_ways (is_negative (unsigned_money n)) (is_negative-unsigned_money n small) (ap is_negative same))

minus_zero-negative : (m : ℕ) → suc m / 100 < 2 ^ 64 → bytes_eq (45 ∷ unsigned_money (suc m)) (codes "-0.00") ≡ false
minus_zero-negative m small =
    false_from_ne_true (bytes_eq (45 ∷ unsigned_money (suc m)) (codes "-0.00")) (λ yes.
    let same : 45 ∷ unsigned_money (suc m) ≡ codes "-0.00" = (bytes_eq-Decides (45 ∷ unsigned_money (suc m)) (codes "-0.00")).0 yes in
    let spelled = cents_of_digits-unsigned_money (suc m) small in
    let zero_is : cents_of_digits (unsigned_money (suc m)) ≡ 0 = ap (λ cs. cents_of_digits (without_sign cs)) same in
    omega (arith, spelled, zero_is))

-- the size of a number within the limit
pub nat_abs-within : (v : ℤ) → IsWithinLimit v → nat_abs v ≤ 1000000000000
nat_abs-within (pos n) h = let most : pos n ≤ℤ pos 1000000000000 = h.at_most in omega (arith, ints)
nat_abs-within (negsuc n) h = let least : negsuc 999999999999 ≤ℤ negsuc n = h.at_least in omega (arith, ints)

-- the money text of an amount is read as that amount
pub read_money-money : (v : ℤ) → IsWithinLimit v → read_money (money v) ≡ Ok v
unfolding money amount_of
read_money-money (pos n) h =
    let small : n ≤ 1000000000000 = nat_abs-within (pos n) h in
    let whole_small : n / 100 < 2 ^ 64 = omega arith in
    let plain = is_negative-unsigned_money n whole_small in
    let body = without_sign-unsigned (unsigned_money n) plain in
    let none = money_fault-none (unsigned_money n) n body small (minus_zero-unsigned n whole_small) in
    let spelled = cents_of_digits-unsigned_money n whole_small in
    rw (none, plain, body, spelled)
read_money-money (negsuc m) h =
    let small : suc m ≤ 1000000000000 = nat_abs-within (negsuc m) h in
    let whole_small : suc m / 100 < 2 ^ 64 = omega arith in
    let none = money_fault-none (45 ∷ unsigned_money (suc m)) (suc m) refl small (minus_zero-negative m whole_small) in
    let spelled = cents_of_digits-unsigned_money (suc m) whole_small in
    rw (none, spelled)

-- ---- what is read is money text

-- a body that passes the tests is the text of the number that it spells
body_is : (body : List ℕ) → list_all is_body_byte body ≡ true → has_two_decimals body ≡ true → is_canonical (before_first is_point body) ≡ true
    → cents_of_digits body < 2 ^ 64 → unsigned_money (cents_of_digits body) ≡ body
body_is body bytes decimals canonical small =
    let parts = body_parts body bytes decimals in
    let whole = parts.0 in let tens = parts.1 in let ones = parts.2 in let digits = parts.4 in
    let whole_is : is_canonical whole ≡ true = ap is_canonical (sym (before_first-body whole tens ones digits))
    ∙ ap (λ cs. is_canonical (before_first is_point cs)) (sym parts.3) ∙ canonical in
    let size_is : cents_of_digits body ≡ cents_of_digits (body_of whole tens ones) = ap cents_of_digits parts.3 in
    ap unsigned_money size_is ∙ unsigned_money-body whole tens ones digits whole_is (omega (arith, size_is)) ∙ sym parts.3

-- what a text without a fault is
record IsWithoutFault (text : List ℕ) : Type 0 where
  some : (length (without_sign text) == 0) ≡ false
  body : unsigned_money (cents_of_digits (without_sign text)) ≡ without_sign text
  differs : bytes_eq text (codes "-0.00") ≡ false
  small : cents_of_digits (without_sign text) ≤ 1000000000000

without_fault : (text : List ℕ) → money_fault text ≡ None → IsWithoutFault text
unfolding money_fault
without_fault text none =
    let body = without_sign text in
    let tests = no_fault (length body == 0) (not (list_all is_body_byte body)) (not (has_two_decimals body))
    (not (is_canonical (before_first is_point body)) || bytes_eq text (codes "-0.00")) (nat_lt (nat_abs LIMIT) (cents_of_digits body)) none in
    let spelling = or_parts (not (is_canonical (before_first is_point body))) (bytes_eq text (codes "-0.00")) tests.3 in
    let small : cents_of_digits body ≤ 1000000000000 = ltb-false 1000000000000 (cents_of_digits body) tests.4 in
    record {
      some = tests.0;
      body = body_is body (not-false (list_all is_body_byte body) tests.1) (not-false (has_two_decimals body) tests.2)
          (not-false (is_canonical (before_first is_point body)) spelling.0) (omega arith);
      differs = spelling.1;
      small = small;
    }

-- a text without a fault is the money text of its amount, which is within the limit: first if it
-- has a sign
minus_amount : (n : ℕ) (cs : List ℕ) → unsigned_money n ≡ cs → n ≤ 1000000000000 → bytes_eq (45 ∷ cs) (codes "-0.00") ≡ false
    → (45 ∷ cs ≡ money (neg_ℤ (pos n))) × IsWithinLimit (neg_ℤ (pos n))
unfolding money
minus_amount zero cs e small differs =
    let spelled : unsigned_money 0 ≡ codes "0.00" = rw (decimal_digit 0 (omega arith)) in
    let same : 45 ∷ cs ≡ codes "-0.00" = ap (λ bs. 45 ∷ bs) (sym e ∙ spelled) in
    absurd (both_ways (bytes_eq (45 ∷ cs) (codes "-0.00")) differs ((bytes_eq-Decides (45 ∷ cs) (codes "-0.00")).1 same))
minus_amount (suc m) cs e small differs = (ap (λ bs. 45 ∷ bs) (sym e), record { at_least = omega (arith, ints); at_most = omega (arith, ints) })

-- and if it has none
plain_amount : (n : ℕ) (text : List ℕ) → unsigned_money n ≡ text → n ≤ 1000000000000 → (text ≡ money (pos n)) × IsWithinLimit (pos n)
unfolding money
plain_amount n text e small = (sym e, record { at_least = omega (arith, ints); at_most = omega (arith, ints) })

money-amount_of : (text : List ℕ) → IsWithoutFault text → (text ≡ money (amount_of text)) × IsWithinLimit (amount_of text)
unfolding amount_of
money-amount_of [] h = let some = h.some in cc
money-amount_of (c ∷ cs) h =
    elim (cases_Bool (c == 45)) [
      | inl minus ↦
          let first : 45 ∷ cs ≡ c ∷ cs = ap (λ b. b ∷ cs) (sym (eqb-true c 45 minus)) in
          let body : without_sign (c ∷ cs) ≡ cs = rw minus in
          let size : cents_of_digits (without_sign (c ∷ cs)) ≡ cents_of_digits cs = ap cents_of_digits body in
          let spelled : unsigned_money (cents_of_digits cs) ≡ cs = ap unsigned_money (sym size) ∙ h.body ∙ body in
          let parts = minus_amount (cents_of_digits cs) cs spelled (omega (arith, h.small, size)) (ap (λ bs. bytes_eq bs (codes "-0.00")) first ∙ h.differs) in
          rw minus (sym first ∙ parts.0, parts.1)
      | inr plain ↦
          let body : without_sign (c ∷ cs) ≡ c ∷ cs = rw plain in
          let size : cents_of_digits (without_sign (c ∷ cs)) ≡ cents_of_digits (c ∷ cs) = ap cents_of_digits body in
          let spelled : unsigned_money (cents_of_digits (c ∷ cs)) ≡ c ∷ cs = ap unsigned_money (sym size) ∙ h.body ∙ body in
          rw plain (plain_amount (cents_of_digits (c ∷ cs)) (c ∷ cs) spelled (omega (arith, h.small, size)))
    ]

-- a text that is read as an amount is its money text
pub money_from_read : (text : List ℕ) (v : ℤ) → read_money text ≡ Ok v → (text ≡ money v) × IsWithinLimit v
money_from_read text v h =
    let Goal : ℤ → Type 0 = λ x. (text ≡ money x) × IsWithinLimit x in
    elim (money_fault text) as (λ o. money_fault text ≡ o → unless_fault o (amount_of text) ≡ Ok v → Goal v) [
      | None ↦ λ none same. let amount : amount_of text ≡ v = cc in subst Goal amount (money-amount_of text (without_fault text none))
      | Some fault ↦ λ some same. cc
    ] refl h

-- ---- the shape of money text

-- a digit, a point or `-`
abbrev pub is_money_byte : ℕ → Bool
is_money_byte c = is_body_byte c || (c == 45)

-- a weaker test passes too
list_all-weaker : (p q : ℕ → Bool) → ((c : ℕ) → p c ≡ true → q c ≡ true) → (cs : List ℕ) → list_all p cs ≡ true → list_all q cs ≡ true
list_all-weaker p q weaker [] h = refl
list_all-weaker p q weaker (c ∷ cs) h =
    let both = and_parts (p c) (list_all p cs) h in
    and_from (q c) (list_all q cs) (weaker c both.0) (list_all-weaker p q weaker cs both.1)

unsigned_money_bytes : (n : ℕ) → n / 100 < 2 ^ 64 → list_all is_money_byte (unsigned_money n) ≡ true
unsigned_money_bytes n small =
    let bytes = all_body_bytes-body (decimal (n / 100)) (48 + n % 100 / 10) (48 + n % 100 % 10) (HasDigits-unsigned_money n small) in
    list_all-weaker is_body_byte is_money_byte (λ c body. or_left (is_body_byte c) (c == 45) body) (unsigned_money n) bytes

-- money text has no other bytes, for any total that an `i64` holds too
pub money_bytes : (v : ℤ) → nat_abs v < 2 ^ 64 → list_all is_money_byte (money v) ≡ true
unfolding money
money_bytes (pos n) small = unsigned_money_bytes n (omega arith)
money_bytes (negsuc m) small = unsigned_money_bytes (suc m) (omega arith)

-- so it lacks any other byte
pub money_lacks : (byte : ℕ) → is_money_byte byte ≡ false → (v : ℤ) → nat_abs v < 2 ^ 64 → list_all (λ c. not (c == byte)) (money v) ≡ true
money_lacks byte other v small =
    list_all-weaker is_money_byte (λ c. not (c == byte)) (λ c passes.
    not_from_false (c == byte) (ne_eqb c byte (λ same. both_ways (is_money_byte byte) other (ap is_money_byte (sym same) ∙ passes)))) (money v)
    (money_bytes v small)

-- the money text of an amount has no space
pub money_keeps_clear : (v : ℤ) → IsWithinLimit v → list_all (λ c. not (c == 32)) (money v) ≡ true
money_keeps_clear v h = let small = nat_abs-within v h in money_lacks 32 refl v (omega arith)
