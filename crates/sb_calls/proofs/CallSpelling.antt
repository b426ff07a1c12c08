-- What is read spells the line, and what spells a call is read.
use Rattle.std.proofs.Common.{◌≡◌, ℕ, ℤ, Bool, true, false, not, cond, ◌&&◌, ◌⊎◌, inl, inr, List, [], ◌∷◌, ◌++◌, length, Result, Ok, Err, codes, refl, sym, ap, subst, ◌∙◌, arith}
use Rattle.std.specs.Prelude.{IfOk, nat_le}
use Rattle.std.specs.List.{All, list_all, join_with_byte, slice_split}
use Rattle.std.specs.Str.{bytes_eq}
use Rattle.std.proofs.lemmas.Bool.{and_parts, not-true}
use Rattle.std.proofs.lemmas.Bool.Decides.{nat_tests}
use Rattle.std.proofs.lemmas.List.Elements.{All-nil, All-cons}
use Rattle.std.proofs.lemmas.List.Splits.{slice_split_at, slice_split_none, join_with_byte-slice_split}
use Rattle.std.proofs.lemmas.Slice.Eq.{bytes_eq-Decides}
use Rattle.sb_amount.proofs.Money.{read_money-money, money_from_read, money_keeps_clear}
use Rattle.sb_amount.specs.Limit.{IsWithinLimit}
use Rattle.sb_amount.specs.Money.{money}
use Rattle.sb_amount.specs.Reading.{read_money}
use Rattle.sb_amount.specs.declared.fault.MoneyFault.{MoneyFault}
use Rattle.sb_rows.specs.Name.{is_name, is_name_byte, IsName}
use Rattle.sb_rows.specs.Text.{is_space, words}
use Rattle.sb_calls.specs.Call.{IsCall, call_line, call_of, call_of_words, of_name, of_name_and_amount, of_two_names, of_two_names_and_amount, with_amount}
use Rattle.sb_calls.specs.declared.call.Call.{Call}
use Rattle.sb_calls.specs.declared.call.Call.TheVariants.{Balance, DepositChecking, TransactSavings, Amalgamate, WriteCheck, SendPayment}
use Rattle.sb_calls.specs.declared.text.fault.CallFault.{CallFault}
use Rattle.sb_calls.specs.declared.text.fault.CallFault.TheVariants.{UnknownVerb, BadName}

-- ---- what is read spells the line

-- the one of two results that is read
pub chosen : {T : Type 0} (test : Bool) (first second read : T) → cond test first second ≡ read
    → ((test ≡ true) × (first ≡ read)) ⊎ ((test ≡ false) × (second ≡ read))
chosen true first second read e = inl (refl, e)
chosen false first second read e = inr (refl, e)

-- a call that was read after a test of its name passed it
tested : (test : Bool) (call : Result Call CallFault) (made : Call) → cond test call (Err BadName) ≡ Ok made → (test ≡ true) × (call ≡ Ok made)
tested true call made e = (refl, e)
tested false call made e = absurd cc

-- a call that was read with an amount has it
amount_made : (call : ℤ → Call) (read : Result ℤ MoneyFault) (made : Call) → with_amount call read ≡ Ok made
    → (amount : ℤ) × (read ≡ Ok amount) × (made ≡ call amount)
amount_made call (Ok amount) made e = (amount, refl, cc)
amount_made call (Err fault) made e = absurd cc

-- a verb that takes a name, if its calls are spelled by it and the name
spells_name : (verb : List ℕ) (call : List ℕ → Call) → ((name : List ℕ) → IsName name → IsCall (call name) × (verb ++ (32 ∷ name) ≡ call_line (call name)))
    → (rest : List (List ℕ)) (made : Call) → of_name call rest ≡ Ok made → IsCall made × (join_with_byte 32 (verb ∷ rest) ≡ call_line made)
spells_name verb call spelled [] made e = absurd cc
spells_name verb call spelled (name ∷ []) made e =
    let passed = tested (is_name name) (Ok (call name)) made e in
    let is : made ≡ call name = cc in
    rw is (spelled name passed.0)
spells_name verb call spelled (a ∷ b ∷ more) made e = absurd cc

-- a verb that takes a name and an amount, in the same way
spells_name_and_amount : (verb : List ℕ) (call : List ℕ → ℤ → Call)
    → ((name : List ℕ) (amount : ℤ) → IsName name → IsWithinLimit amount
    → IsCall (call name amount) × (verb ++ (32 ∷ (name ++ (32 ∷ money amount))) ≡ call_line (call name amount)))
    → (rest : List (List ℕ)) (made : Call) → of_name_and_amount call rest ≡ Ok made → IsCall made × (join_with_byte 32 (verb ∷ rest) ≡ call_line made)
spells_name_and_amount verb call spelled [] made e = absurd cc
spells_name_and_amount verb call spelled (a ∷ []) made e = absurd cc
spells_name_and_amount verb call spelled (name ∷ text ∷ []) made e =
    let passed = tested (is_name name) (with_amount (call name) (read_money text)) made e in
    let amount = amount_made (call name) (read_money text) made passed.1 in
    let money_is = money_from_read text amount.0 amount.1 in
    let is = spelled name amount.0 passed.0 money_is.1 in
    (subst IsCall (sym amount.2) is.0, ap (λ (word : List ℕ). verb ++ (32 ∷ (name ++ (32 ∷ word)))) money_is.0 ∙ is.1 ∙ ap call_line (sym amount.2))
spells_name_and_amount verb call spelled (a ∷ b ∷ c ∷ more) made e = absurd cc

-- a verb that takes two names, in the same way
spells_two_names : (verb : List ℕ) (call : List ℕ → List ℕ → Call)
    → ((from to : List ℕ) → IsName from → IsName to → IsCall (call from to) × (verb ++ (32 ∷ (from ++ (32 ∷ to))) ≡ call_line (call from to)))
    → (rest : List (List ℕ)) (made : Call) → of_two_names call rest ≡ Ok made → IsCall made × (join_with_byte 32 (verb ∷ rest) ≡ call_line made)
spells_two_names verb call spelled [] made e = absurd cc
spells_two_names verb call spelled (a ∷ []) made e = absurd cc
spells_two_names verb call spelled (from ∷ to ∷ []) made e =
    let passed = tested (is_name from && is_name to) (Ok (call from to)) made e in
    let both = and_parts (is_name from) (is_name to) passed.0 in
    let is : made ≡ call from to = cc in
    rw is (spelled from to both.0 both.1)
spells_two_names verb call spelled (a ∷ b ∷ c ∷ more) made e = absurd cc

-- a verb that takes two names and an amount, in the same way
spells_two_names_and_amount : (verb : List ℕ) (call : List ℕ → List ℕ → ℤ → Call)
    → ((from to : List ℕ) (amount : ℤ) → IsName from → IsName to → IsWithinLimit amount
    → IsCall (call from to amount) × (verb ++ (32 ∷ (from ++ (32 ∷ (to ++ (32 ∷ money amount))))) ≡ call_line (call from to amount)))
    → (rest : List (List ℕ)) (made : Call) → of_two_names_and_amount call rest ≡ Ok made → IsCall made × (join_with_byte 32 (verb ∷ rest) ≡ call_line made)
spells_two_names_and_amount verb call spelled [] made e = absurd cc
spells_two_names_and_amount verb call spelled (a ∷ []) made e = absurd cc
spells_two_names_and_amount verb call spelled (a ∷ b ∷ []) made e = absurd cc
spells_two_names_and_amount verb call spelled (from ∷ to ∷ text ∷ []) made e =
    let passed = tested (is_name from && is_name to) (with_amount (call from to) (read_money text)) made e in
    let both = and_parts (is_name from) (is_name to) passed.0 in
    let amount = amount_made (call from to) (read_money text) made passed.1 in
    let money_is = money_from_read text amount.0 amount.1 in
    let is = spelled from to amount.0 both.0 both.1 money_is.1 in (
      subst IsCall (sym amount.2) is.0,
      ap (λ (word : List ℕ). verb ++ (32 ∷ (from ++ (32 ∷ (to ++ (32 ∷ word)))))) money_is.0 ∙ is.1 ∙ ap call_line (sym amount.2),
    )
spells_two_names_and_amount verb call spelled (a ∷ b ∷ c ∷ d ∷ more) made e = absurd cc

-- ---- the verbs, from the last

-- what words are read as, if the verb is this one or one after it
abbrev if_pay : List ℕ → List (List ℕ) → Result Call CallFault
if_pay verb rest = cond (bytes_eq verb (codes "pay")) (of_two_names_and_amount SendPayment rest) (Err UnknownVerb)

abbrev if_amalgamate : List ℕ → List (List ℕ) → Result Call CallFault
if_amalgamate verb rest = cond (bytes_eq verb (codes "amalgamate")) (of_two_names Amalgamate rest) (if_pay verb rest)

abbrev if_check : List ℕ → List (List ℕ) → Result Call CallFault
if_check verb rest = cond (bytes_eq verb (codes "check")) (of_name_and_amount WriteCheck rest) (if_amalgamate verb rest)

abbrev if_savings : List ℕ → List (List ℕ) → Result Call CallFault
if_savings verb rest = cond (bytes_eq verb (codes "savings")) (of_name_and_amount TransactSavings rest) (if_check verb rest)

abbrev if_deposit : List ℕ → List (List ℕ) → Result Call CallFault
if_deposit verb rest = cond (bytes_eq verb (codes "deposit")) (of_name_and_amount DepositChecking rest) (if_savings verb rest)

-- what is read as a call for one verb or for the others spells it, if each of the two does
spells_either : (verb word : List ℕ) (rest : List (List ℕ)) (first others : Result Call CallFault) (made : Call)
    → cond (bytes_eq verb word) first others ≡ Ok made
    → (first ≡ Ok made → IsCall made × (join_with_byte 32 (word ∷ rest) ≡ call_line made))
    → (others ≡ Ok made → IsCall made × (join_with_byte 32 (verb ∷ rest) ≡ call_line made))
    → IsCall made × (join_with_byte 32 (verb ∷ rest) ≡ call_line made)
spells_either verb word rest first others made e here there =
    elim (chosen (bytes_eq verb word) first others (Ok made) e) [
      | inl is ↦ subst (λ (v : List ℕ). IsCall made × (join_with_byte 32 (v ∷ rest) ≡ call_line made)) (sym ((bytes_eq-Decides verb word).0 is.0)) (here is.1)
      | inr other ↦ there other.1
    ]

-- the words of a call of the last verb, joined by spaces, spell it
pay_spells : (verb : List ℕ) (rest : List (List ℕ)) (made : Call) → if_pay verb rest ≡ Ok made
    → IsCall made × (join_with_byte 32 (verb ∷ rest) ≡ call_line made)
pay_spells verb rest made e =
    spells_either verb (codes "pay") rest (of_two_names_and_amount SendPayment rest) (Err UnknownVerb) made e
    (spells_two_names_and_amount (codes "pay") SendPayment (λ from to amount payer payee within. ((payer, payee, within), refl)) rest made)
    (λ unknown. absurd cc)

-- the words of a call of the verbs from `amalgamate` on, joined by spaces, spell it
amalgamate_spells : (verb : List ℕ) (rest : List (List ℕ)) (made : Call) → if_amalgamate verb rest ≡ Ok made
    → IsCall made × (join_with_byte 32 (verb ∷ rest) ≡ call_line made)
amalgamate_spells verb rest made e =
    spells_either verb (codes "amalgamate") rest (of_two_names Amalgamate rest) (if_pay verb rest) made e
    (spells_two_names (codes "amalgamate") Amalgamate (λ from to giver taker. ((giver, taker), refl)) rest made) (pay_spells verb rest made)

-- the words of a call of the verbs from `check` on, joined by spaces, spell it
check_spells : (verb : List ℕ) (rest : List (List ℕ)) (made : Call) → if_check verb rest ≡ Ok made
    → IsCall made × (join_with_byte 32 (verb ∷ rest) ≡ call_line made)
check_spells verb rest made e =
    spells_either verb (codes "check") rest (of_name_and_amount WriteCheck rest) (if_amalgamate verb rest) made e
    (spells_name_and_amount (codes "check") WriteCheck (λ name amount valid within. ((valid, within), refl)) rest made) (amalgamate_spells verb rest made)

-- the words of a call of the verbs from `savings` on, joined by spaces, spell it
savings_spells : (verb : List ℕ) (rest : List (List ℕ)) (made : Call) → if_savings verb rest ≡ Ok made
    → IsCall made × (join_with_byte 32 (verb ∷ rest) ≡ call_line made)
savings_spells verb rest made e =
    spells_either verb (codes "savings") rest (of_name_and_amount TransactSavings rest) (if_check verb rest) made e
    (spells_name_and_amount (codes "savings") TransactSavings (λ name amount valid within. ((valid, within), refl)) rest made) (check_spells verb rest made)

-- the words of a call of the verbs from `deposit` on, joined by spaces, spell it
deposit_spells : (verb : List ℕ) (rest : List (List ℕ)) (made : Call) → if_deposit verb rest ≡ Ok made
    → IsCall made × (join_with_byte 32 (verb ∷ rest) ≡ call_line made)
deposit_spells verb rest made e =
    spells_either verb (codes "deposit") rest (of_name_and_amount DepositChecking rest) (if_savings verb rest) made e
    (spells_name_and_amount (codes "deposit") DepositChecking (λ name amount valid within. ((valid, within), refl)) rest made) (savings_spells verb rest made)

-- the words of a call, joined by spaces, spell it
pub words_spell : (ws : List (List ℕ)) (made : Call) → call_of_words ws ≡ Ok made → IsCall made × (join_with_byte 32 ws ≡ call_line made)
words_spell [] made e = absurd cc
words_spell (verb ∷ rest) made e =
    spells_either verb (codes "balance") rest (of_name Balance rest) (if_deposit verb rest) made e
    (spells_name (codes "balance") Balance (λ name valid. (valid, refl)) rest made) (deposit_spells verb rest made)

-- a call that is read from a line is valid, and the line is its spelling
line_spells : (line : List ℕ) (made : Call) → call_of line ≡ Ok made → IsCall made × (line ≡ call_line made)
unfolding call_of words
line_spells line made e =
    let spelled = words_spell (words line) made e in
    (spelled.0, sym (join_with_byte-slice_split 32 line) ∙ spelled.1)

-- the same for a result
pub read_is_spelled : (line : List ℕ) (result : Result Call CallFault) → result ≡ call_of line → IfOk result (λ call. IsCall call × (line ≡ call_line call))
read_is_spelled line (Ok call) e = line_spells line call (sym e)
read_is_spelled line (Err fault) e = tt

-- ---- a line that spells a call is read

-- a text whose bytes all pass a test that spaces fail has no spaces
pub without_spaces : (test : ℕ → Bool) (text : List ℕ) → ((c : ℕ) → test c ≡ true → is_space c ≡ false) → list_all test text ≡ true
    → All (λ c. is_space c ≡ false) text
without_spaces test [] clear h = All-nil (λ c. is_space c ≡ false)
without_spaces test (c ∷ text) clear h =
    let both = and_parts (test c) (list_all test text) h in
    All-cons (λ c. is_space c ≡ false) c text (clear c both.0) (without_spaces test text clear both.1)

name_byte_clear : (c : ℕ) → is_name_byte c ≡ true → is_space c ≡ false
name_byte_clear c h = grind (arith, nat_tests)

-- a name has no space
name_clear : (name : List ℕ) → IsName name → All (λ c. is_space c ≡ false) name
name_clear name h =
    without_spaces is_name_byte name name_byte_clear (and_parts (nat_le 1 (length name) && nat_le (length name) 20) (list_all is_name_byte name) h).1

-- nor does money text
money_clear : (amount : ℤ) → IsWithinLimit amount → All (λ c. is_space c ≡ false) (money amount)
money_clear amount h = without_spaces (λ c. not (is_space c)) (money amount) (λ c. not-true (is_space c)) (money_keeps_clear amount h)

-- the words of a name and an amount, or of two names
words-name_and_amount : (name : List ℕ) (amount : ℤ) → IsName name → IsWithinLimit amount
    → slice_split is_space (name ++ 32 ∷ money amount) ≡ name ∷ money amount ∷ []
words-name_and_amount name amount valid within =
    slice_split_at is_space name 32 (money amount) (name_clear name valid) refl
    ∙ ap (λ ws. name ∷ ws) (slice_split_none is_space (money amount) (money_clear amount within))

words-two_names : (from to : List ℕ) → IsName from → IsName to → slice_split is_space (from ++ 32 ∷ to) ≡ from ∷ to ∷ []
words-two_names from to giver taker =
    slice_split_at is_space from 32 to (name_clear from giver) refl ∙ ap (λ ws. from ∷ ws) (slice_split_none is_space to (name_clear to taker))

-- the words of two names and an amount
words-two_names_and_amount : (from to : List ℕ) (amount : ℤ) → IsName from → IsName to → IsWithinLimit amount
    → slice_split is_space (from ++ 32 ∷ (to ++ 32 ∷ money amount)) ≡ from ∷ to ∷ money amount ∷ []
words-two_names_and_amount from to amount payer payee within =
    slice_split_at is_space from 32 (to ++ 32 ∷ money amount) (name_clear from payer) refl
    ∙ ap (λ ws. from ∷ ws) (words-name_and_amount to amount payee within)

-- the spelling of a call is read as that call
pub spelled_is_read : (call : Call) → IsCall call → call_of (call_line call) ≡ Ok call
unfolding call_of words
spelled_is_read (Balance name) h =
    let one : slice_split is_space name ≡ name ∷ [] = slice_split_none is_space name (name_clear name h) in
    rw (one, h) refl
spelled_is_read (DepositChecking name amount) h =
    let two = words-name_and_amount name amount h.0 h.1 in
    rw (two, h.0, read_money-money amount h.1) refl
spelled_is_read (TransactSavings name amount) h =
    let two = words-name_and_amount name amount h.0 h.1 in
    rw (two, h.0, read_money-money amount h.1) refl
spelled_is_read (Amalgamate from to) h =
    let two = words-two_names from to h.0 h.1 in
    rw (two, h.0, h.1) refl
spelled_is_read (WriteCheck name amount) h =
    let two = words-name_and_amount name amount h.0 h.1 in
    rw (two, h.0, read_money-money amount h.1) refl
spelled_is_read (SendPayment from to amount) h =
    let three = words-two_names_and_amount from to amount h.0 h.1 h.2 in
    rw (three, h.0, h.1, read_money-money amount h.2) refl
