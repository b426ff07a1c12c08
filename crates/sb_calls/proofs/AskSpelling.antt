-- What is read from an asking line spells it, and a line that spells an ask is read.
use Rattle.std.proofs.Common.{◌≡◌, ℕ, zero, suc, ◌≤◌, ◌<◌, ◌^◌, nat_lt, true, false, ◌&&◌, inl, inr, Option, Some, None, Result, Ok, Err, List, [], ◌∷◌, ◌++◌, append_assoc, codes, decimal, refl, sym, ap, subst, ◌∙◌, arith}
use Rattle.std.specs.Prelude.{IfOk}
use Rattle.std.specs.Char.{is_ascii_digit}
use Rattle.std.specs.List.{All, list_all, join_with_byte, slice_split}
use Rattle.std.specs.Str.{bytes_eq}
use Rattle.std.specs.Str.Parse.{digits_value}
use Rattle.std.proofs.lemmas.Bool.{and_parts, lt-ltb, ltb-true}
use Rattle.std.proofs.lemmas.Bool.Decides.{nat_tests}
use Rattle.std.proofs.lemmas.Fmt.{digits_value-decimal}
use Rattle.std.proofs.lemmas.List.Splits.{slice_split_at, join_with_byte-slice_split}
use Rattle.std.proofs.lemmas.Option.{cond_some}
use Rattle.std.proofs.lemmas.Slice.Eq.{bytes_eq-Decides}
use Rattle.sb_amount.proofs.Digits.{numerals, all_digits-decimal, is_canonical-decimal, decimal-canonical}
use Rattle.sb_amount.specs.Reading.{is_canonical}
use Rattle.sb_rows.specs.Text.{is_space, words}
use Rattle.sb_calls.proofs.CallSpelling.{chosen, without_spaces, words_spell, spelled_is_read}
use Rattle.sb_calls.specs.Ask.{key_text, ask_line, IsKey, IsAskLine, read_number, key_of, under_key, with_key, keyed_ask, ask_line_of_words, ask_line_of}
use Rattle.sb_calls.specs.Call.{IsCall, call_line, call_of, call_of_words}
use Rattle.sb_calls.specs.declared.ask.AskLine.{AskLine}
use Rattle.sb_calls.specs.declared.ask.Key.{Key}
use Rattle.sb_calls.specs.declared.call.Call.{Call}
use Rattle.sb_calls.specs.declared.call.Call.TheVariants.{Balance, DepositChecking, TransactSavings, Amalgamate, WriteCheck, SendPayment}
use Rattle.sb_calls.specs.declared.text.fault.CallFault.{CallFault}

-- ---- numbers

-- a text that is read as a number is its decimal
number_made : (text : List ℕ) (n : ℕ) → read_number text ≡ Some n → (text ≡ decimal n) × (n < 2 ^ 32)
unfolding read_number
number_made text n e =
    let tested = cond_some (list_all is_ascii_digit text && is_canonical text && nat_lt (digits_value 10 text) (2 ^ 32)) (digits_value 10 text) n e in
    let small = and_parts (list_all is_ascii_digit text && is_canonical text) (nat_lt (digits_value 10 text) (2 ^ 32)) tested.0 in
    let spelled = and_parts (list_all is_ascii_digit text) (is_canonical text) small.0 in
    let below : digits_value 10 text < 2 ^ 32 = ltb-true (digits_value 10 text) (2 ^ 32) small.1 in
    (sym (decimal-canonical text spelled.0 spelled.1 (omega arith)) ∙ ap decimal tested.1, omega (arith, tested.1))

-- the decimal of a number is read as that number
number_read : (n : ℕ) → n < 2 ^ 32 → read_number (decimal n) ≡ Some n
unfolding read_number
number_read n below =
    let small : n < 2 ^ 64 = omega arith in
    let digits : list_all is_ascii_digit (decimal n) ≡ true = all_digits-decimal n small in
    let canonical = is_canonical-decimal n small in
    let value = digits_value-decimal numerals n small in
    let fits = lt-ltb n (2 ^ 32) below in
    rw (digits, canonical, value, fits) refl

-- and has no space
number_clear : (n : ℕ) → n < 2 ^ 32 → All (λ c. is_space c ≡ false) (decimal n)
number_clear n below = without_spaces is_ascii_digit (decimal n) (λ c digit. grind (arith, nat_tests)) (all_digits-decimal n (omega arith))

-- ---- keys

-- a key that was read has its two numbers, and its client is not 0
key_made : (client request : Option ℕ) (key : Key) → key_of client request ≡ Some key
    → (client ≡ Some key.client) × (request ≡ Some key.request) × (1 ≤ key.client)
key_made None request key e = cc
key_made (Some zero) request key e = cc
key_made (Some (suc n)) None key e = cc
key_made (Some (suc n)) (Some request) key e =
    let client_is : suc n ≡ key.client = cc in
    let request_is : request ≡ key.request = cc in
    (ap Some client_is, ap Some request_is, omega (arith, client_is))

-- the numbers of a key give it
key_of-numbers : (client request : ℕ) → 1 ≤ client → key_of (Some client) (Some request) ≡ Some (record { client = client; request = request })
key_of-numbers zero request h = absurd (omega arith)
key_of-numbers (suc n) request h = refl

-- what follows a key's text follows its last space
key_text-append : (key : Key) (rest : List ℕ) → key_text (Some key) ++ rest ≡ codes "ask " ++ (decimal key.client ++ (32 ∷ (decimal key.request ++ 32 ∷ rest)))
key_text-append key rest = simp append_assoc

-- ---- what is read spells the line

-- a call that was read under a key
under_key_made : (key : Option Key) (read : Result Call CallFault) (made : AskLine) → under_key key read ≡ Ok made → (read ≡ Ok made.call) × (key ≡ made.key)
under_key_made key (Ok call) made e =
    let same : ◌≡◌ {A = AskLine} (record { key = key; call = call }) made = cc in
    (ap (λ (a : AskLine). Ok a.call) same, ap (λ (a : AskLine). a.key) same)
under_key_made key (Err fault) made e = absurd cc

-- the key that it was read under
with_key_made : (key : Option Key) (rest : List (List ℕ)) (made : AskLine) → with_key key rest ≡ Ok made
    → (k : Key) × (key ≡ Some k) × (under_key (Some k) (call_of_words rest) ≡ Ok made)
with_key_made None rest made e = absurd cc
with_key_made (Some key) rest made e = (key, refl, e)

-- what was read under a key, and spells its call, spells the whole
spells_both : (key : Option Key) (made : AskLine) (line : List ℕ) → key ≡ made.key → IsKey key → IsCall made.call → line ≡ key_text key ++ call_line made.call
    → IsAskLine made × (line ≡ ask_line made)
spells_both key made line same valid h e = ((subst IsKey same valid, h), e ∙ ap (λ (k : Option Key). key_text k ++ call_line made.call) same)

-- the two numbers of a key and what follows them
key_text-numbers : (key : Key) (client request joined rest : List ℕ) → client ≡ decimal key.client → request ≡ decimal key.request → joined ≡ rest
    → codes "ask " ++ (client ++ (32 ∷ (request ++ 32 ∷ joined))) ≡ key_text (Some key) ++ rest
key_text-numbers key client request joined rest c r j = rw (c, r, j) (sym (key_text-append key rest))

-- the words after `ask`, joined after it
keyed_spells : (rest : List (List ℕ)) (made : AskLine) → keyed_ask rest ≡ Ok made → IsAskLine made × (join_with_byte 32 (codes "ask" ∷ rest) ≡ ask_line made)
keyed_spells [] made e = absurd cc
keyed_spells (client ∷ []) made e = absurd cc
keyed_spells (client ∷ request ∷ []) made e =
    let key = with_key_made (key_of (read_number client) (read_number request)) [] made e in
    absurd cc
keyed_spells (client ∷ request ∷ word ∷ more) made e =
    let key = with_key_made (key_of (read_number client) (read_number request)) (word ∷ more) made e in
    let numbers = key_made (read_number client) (read_number request) key.0 key.1 in
    let first = number_made client key.0.client numbers.0 in
    let second = number_made request key.0.request numbers.1 in
    let under = under_key_made (Some key.0) (call_of_words (word ∷ more)) made key.2 in
    let call = words_spell (word ∷ more) made.call under.0 in
    spells_both (Some key.0) made _ under.1 (numbers.2, first.1, second.1) call.0
    (key_text-numbers key.0 client request (join_with_byte 32 (word ∷ more)) (call_line made.call) first.0 second.0 call.1)

-- the words of an asking line, joined by spaces, spell it
asked_words_spell : (ws : List (List ℕ)) (made : AskLine) → ask_line_of_words ws ≡ Ok made → IsAskLine made × (join_with_byte 32 ws ≡ ask_line made)
asked_words_spell [] made e = absurd cc
asked_words_spell (verb ∷ rest) made e =
    elim (chosen (bytes_eq verb (codes "ask")) (keyed_ask rest) (under_key None (call_of_words (verb ∷ rest))) (Ok made) e) [
      | inl ask ↦ subst (λ (v : List ℕ). IsAskLine made × (join_with_byte 32 (v ∷ rest) ≡ ask_line made)) (sym ((bytes_eq-Decides verb (codes "ask")).0 ask.0))
          (keyed_spells rest made ask.1)
      | inr plain ↦
          let under = under_key_made None (call_of_words (verb ∷ rest)) made plain.1 in
          let call = words_spell (verb ∷ rest) made.call under.0 in
          spells_both None made (join_with_byte 32 (verb ∷ rest)) under.1 tt call.0 call.1
    ]

-- a line that was read is its spelling
line_spells : (line : List ℕ) (made : AskLine) → ask_line_of line ≡ Ok made → IsAskLine made × (line ≡ ask_line made)
unfolding ask_line_of words
line_spells line made e =
    let spelled = asked_words_spell (words line) made e in
    (spelled.0, sym (join_with_byte-slice_split 32 line) ∙ spelled.1)

-- the same for a result
pub ask_is_spelled : (line : List ℕ) (result : Result AskLine CallFault) → result ≡ ask_line_of line
    → IfOk result (λ asked. IsAskLine asked × (line ≡ ask_line asked))
ask_is_spelled line (Ok asked) e = line_spells line asked (sym e)
ask_is_spelled line (Err fault) e = tt

-- ---- a line that spells an ask is read

-- a call's spelling doesn't begin with `ask`
call_without_key : (call : Call) → ask_line_of (call_line call) ≡ under_key None (call_of (call_line call))
unfolding ask_line_of call_of words
call_without_key (Balance name) = refl
call_without_key (DepositChecking name amount) = refl
call_without_key (TransactSavings name amount) = refl
call_without_key (Amalgamate from to) = refl
call_without_key (WriteCheck name amount) = refl
call_without_key (SendPayment from to amount) = refl

-- the words of a line with a key
words-key : (key : Key) (rest : List ℕ) → IsKey (Some key)
    → words (key_text (Some key) ++ rest) ≡ codes "ask" ∷ decimal key.client ∷ decimal key.request ∷ words rest
unfolding words
words-key key rest h =
    let request = slice_split_at is_space (decimal key.request) 32 rest (number_clear key.request h.2) refl in
    let client = slice_split_at is_space (decimal key.client) 32 (decimal key.request ++ 32 ∷ rest) (number_clear key.client h.1) refl in
    ap (slice_split is_space) (key_text-append key rest) ∙ rw (client, request) refl

-- the spelling of an ask is read as that ask
asked_parts : (key : Option Key) (call : Call) → IsKey key → IsCall call → ask_line_of (key_text key ++ call_line call) ≡ Ok (record { key = key; call = call })
unfolding ask_line_of call_of
asked_parts None call valid h = call_without_key call ∙ ap (under_key None) (spelled_is_read call h)
asked_parts (Some key) call valid h =
    let client = number_read key.client valid.1 in
    let request = number_read key.request valid.2 in
    let same = key_of-numbers key.client key.request valid.0 in
    let read : call_of_words (words (call_line call)) ≡ Ok call = spelled_is_read call h in
    ap ask_line_of_words (words-key key (call_line call) valid) ∙ rw (client, request, same, read) refl

pub spelled_ask_is_read : (asked : AskLine) → IsAskLine asked → ask_line_of (ask_line asked) ≡ Ok asked
spelled_ask_is_read asked h = asked_parts asked.key asked.call h.0 h.1
