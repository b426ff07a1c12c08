-- The line of a customer is read as that customer, and nothing else is.
use Rattle.std.proofs.Common.{◌≡◌, ℕ, ◌<◌, ℤ, pos, ◌≤ℤ◌, int_lt, Bool, true, false, not, ◌&&◌, nat_le, if◌then◌else◌, ◌==◌, Result, Ok, Err, List, [], ◌∷◌, ◌++◌, length, codes, All, bytes_eq, refl, sym, ap, ◌∙◌, arith}
use Rattle.std.specs.List.{list_all, list_any, slice_split, join_with_byte}
use Rattle.std.specs.Cmp.Lexicographic.{bytes_decides}
use Rattle.std.proofs.lemmas.Bool.{and_parts, false_from_ne_true, not-true, lt-leb, false_from_ne_true}
use Rattle.std.proofs.lemmas.Bool.Decides.{nat_tests}
use Rattle.std.proofs.lemmas.Int.{ints}
use Rattle.std.proofs.lemmas.List.Splits.{slice_split_at, slice_split_none, join_with_byte-slice_split}
use Rattle.std.proofs.lemmas.List.Sums.{AllPass-from_list_all}
use Rattle.sb_amount.specs.Limit.{IsWithinLimit}
use Rattle.sb_amount.specs.Money.{money}
use Rattle.sb_amount.specs.Reading.{read_money}
use Rattle.sb_amount.specs.declared.fault.MoneyFault.{MoneyFault}
use Rattle.sb_amount.proofs.Money.{read_money-money, money_from_read, money_keeps_clear}
use Rattle.sb_rows.specs.Balances.{IsSavings}
use Rattle.sb_rows.specs.Customer.{Customer, names_of}
use Rattle.sb_rows.specs.Name.{IsName, is_name, is_name_byte}
use Rattle.sb_rows.specs.Opening.{customer_line, customer_of, with_amounts}
use Rattle.sb_rows.specs.Text.{words, is_space}
use Rattle.sb_rows.specs.declared.columns.TheConstants.{CUSTOMERS}
use Rattle.sb_rows.specs.declared.name.TheConstants.{NAME_BYTES}
use Rattle.sb_rows.specs.declared.fault.LineFault.TheVariants.{BadName, DoubleName, NegativeSavings, TooMany}

-- ---- words without a space

-- no byte is a space
abbrev IsClear : List ℕ → Type 0
IsClear text = All (λ c. is_space c ≡ false) text

-- no byte of a name is a space
name_byte_clear : (c : ℕ) → is_name_byte c ≡ true → is_space c ≡ false
name_byte_clear c h = grind (arith, nat_tests)

-- a name has no space
name_clear : (text : List ℕ) → IsName text → IsClear text
name_clear text h =
    let bytes = (and_parts (nat_le 1 (length text) && nat_le (length text) NAME_BYTES) (list_all is_name_byte text) h).1 in
    λ k d l. name_byte_clear _ (AllPass-from_list_all is_name_byte text bytes k d l)

-- money text has no space either
money_clear : (v : ℤ) → IsWithinLimit v → IsClear (money v)
money_clear v h k d l = not-true _ (AllPass-from_list_all (λ c. not (c == 32)) (money v) (money_keeps_clear v h) k d l)

-- the words of a line made of three words
words-three : (a b c : List ℕ) → IsClear a → IsClear b → IsClear c → words (a ++ ((32 ∷ b) ++ (32 ∷ c))) ≡ a ∷ b ∷ c ∷ []
unfolding words
words-three a b c p q r =
    slice_split_at is_space a 32 (b ++ (32 ∷ c)) p refl
    ∙ ap (λ ws. a ∷ ws) (slice_split_at is_space b 32 c q refl ∙ ap (λ ws. b ∷ ws) (slice_split_none is_space c r))

-- a line with three words is made of them
line_from_words : (line a b c : List ℕ) → words line ≡ a ∷ b ∷ c ∷ [] → line ≡ a ++ ((32 ∷ b) ++ (32 ∷ c))
unfolding words
line_from_words line a b c h = sym (join_with_byte-slice_split 32 line) ∙ ap (join_with_byte 32) h

-- ---- a customer's line is read

-- a customer that may come next
pub record IsNext (before : List Customer) (c : Customer) : Type 0 where
  pub valid : IsName c.name
  pub new : list_any (bytes_eq c.name) (names_of before) ≡ false
  pub room : length before < CUSTOMERS
  pub savings : IsSavings c.savings
  pub checking : IsWithinLimit c.checking

-- the words of the line of that customer
pub words-customer_line : (before : List Customer) (c : Customer) → IsNext before c → words (customer_line c) ≡ c.name ∷ money c.savings ∷ money c.checking ∷ []
words-customer_line before c h =
    words-three c.name (money c.savings) (money c.checking) (name_clear c.name h.valid) (money_clear c.savings h.savings.within)
    (money_clear c.checking h.checking)

-- an amount that is at least 0 passes the test of its sign
not_negative : (s : ℤ) → pos 0 ≤ℤ s → int_lt s (pos 0) ≡ false
not_negative s h = grind (arith, ints)

-- the line of a customer is read as that customer
pub customer_of-customer_line : (before : List Customer) (c : Customer) → IsNext before c → customer_of before (words (customer_line c)) ≡ Ok c
customer_of-customer_line before c h =
    let valid : is_name c.name ≡ true = h.valid in
    let saved = read_money-money c.savings h.savings.within in
    let checked = read_money-money c.checking h.checking in
    let sign = not_negative c.savings h.savings.not_negative in
    let room = lt-leb CUSTOMERS (length before) h.room in
    rw (words-customer_line before c h, valid, h.new, saved, checked, sign, room)

-- the line of a customer isn't `begin`
pub customer_line-begin : (before : List Customer) (c : Customer) → IsNext before c → bytes_eq (customer_line c) (codes "begin") ≡ false
unfolding words
customer_line-begin before c h = false_from_ne_true _ (λ same.
    let three = words-customer_line before c h in
    let one : slice_split is_space (customer_line c) ≡ slice_split is_space (codes "begin") =
    ap (slice_split is_space) ((bytes_decides (customer_line c) (codes "begin")).0 same) in
    let count : length (slice_split is_space (codes "begin")) ≡ 1 = refl in
    omega (arith, ap length three, ap length one, count))

-- ---- what is read spells the line

-- the name and the amounts after the last two tests
amounts_read : (negative many : Bool) (name : List ℕ) (s t : ℤ) (c : Customer)
    → (if negative then Err NegativeSavings else if many then Err TooMany else Ok (record { name = name; savings = s; checking = t })) ≡ Ok c
    → (name ≡ c.name) × (s ≡ c.savings) × (t ≡ c.checking)
amounts_read true many name s t c h = cc
amounts_read false true name s t c h = cc
amounts_read false false name s t c h =
    let same : ◌≡◌ {A = Customer} (record { name = name; savings = s; checking = t }) c = cc in
    (ap (λ (x : Customer). x.name) same, ap (λ (x : Customer). x.savings) same, ap (λ (x : Customer). x.checking) same)

-- the amounts that passed the tests of a line
with_amounts_read : (n : ℕ) (name : List ℕ) (r q : Result ℤ MoneyFault) (c : Customer) → with_amounts n name r q ≡ Ok c
    → (name ≡ c.name) × (r ≡ Ok c.savings) × (q ≡ Ok c.checking)
with_amounts_read n name (Ok s) (Ok t) c h =
    let parts = amounts_read (int_lt s (pos 0)) (nat_le CUSTOMERS n) name s t c h in (parts.0, ap Ok parts.1, ap Ok parts.2)
with_amounts_read n name (Ok s) (Err f) c h = cc
with_amounts_read n name (Err f) q c h = cc

-- the name and the amounts that passed the tests of a line
tests_read : (valid double : Bool) (n : ℕ) (name : List ℕ) (r q : Result ℤ MoneyFault) (c : Customer)
    → (if not valid then Err BadName else if double then Err DoubleName else with_amounts n name r q) ≡ Ok c
    → (name ≡ c.name) × (r ≡ Ok c.savings) × (q ≡ Ok c.checking)
tests_read false double n name r q c h = cc
tests_read true true n name r q c h = cc
tests_read true false n name r q c h = with_amounts_read n name r q c h

-- a line that is read as a customer has the words of that customer's line
words_read : (before : List Customer) (ws : List (List ℕ)) (c : Customer) → customer_of before ws ≡ Ok c → ws ≡ c.name ∷ money c.savings ∷ money c.checking ∷ []
words_read before [] c h = cc
words_read before (a ∷ []) c h = cc
words_read before (a ∷ b ∷ []) c h = cc
words_read before (a ∷ b ∷ d ∷ []) c h =
    let parts = tests_read (is_name a) (list_any (bytes_eq a) (names_of before)) (length before) a (read_money b) (read_money d) c h in
    let saved = (money_from_read b c.savings parts.1).0 in
    let checked = (money_from_read d c.checking parts.2).0 in
    λ i. parts.0 i ∷ saved i ∷ checked i ∷ []
words_read before (a ∷ b ∷ d ∷ e ∷ more) c h = cc

-- a line that is read as a customer is that customer's line
pub line_read : (before : List Customer) (line : List ℕ) (c : Customer) → customer_of before (words line) ≡ Ok c → line ≡ customer_line c
line_read before line c h = line_from_words line c.name (money c.savings) (money c.checking) (words_read before (words line) c h)
