-- Lines under their keys.
use Rattle.std.proofs.Common.{◌≡◌, ℕ, zero, suc, ◌+◌, ◌≤◌, ◌<◌, ◌^◌, Bool, true, false, ◌==◌, ◌||◌, if◌then◌else◌, Option, Some, None, List, [], ◌∷◌, ◌++◌, length, refl, sym, ap, ◌∙◌, arith, take, append-nil, append_assoc}
use Rattle.std.specs.List.{AllByRecursion, list_any}
use Rattle.std.proofs.lemmas.Bool.{false_from_ne_true, eqb-true, and_parts}
use Rattle.std.proofs.lemmas.List.{length-take}
use Rattle.std.proofs.lemmas.List.Folds.{list_any-append}
use Rattle.sb_calls.specs.Ask.{IsKey}
use Rattle.sb_calls.specs.declared.ask.AskLine.{AskLine}
use Rattle.sb_calls.specs.declared.ask.Key.{Key}
use Rattle.sb_calls.specs.declared.call.Call.{Call}
use Rattle.sb_sequencer.proofs.FirstAsks.{has_key-firsts_after}
use Rattle.sb_sequencer.specs.Numbering.{same_key, has_key, firsts_after, first_asks}
use Rattle.sb_calls.specs.declared.call.TheConstants.{LOG_CALLS}
use Rattle.bank_server.specs.Asks.{key_of_line, running_after, asks_with_keys_from, asks_with_keys}
use Rattle.bank_server.specs.inner.AskSteps.{running_from}
use Rattle.bank_server.specs.Output.{log_of_asks}

or_kept : (b c d : Bool) → (c ≡ false → d ≡ false) → (b || c) ≡ false → (b || d) ≡ false
or_kept true c d h e = e
or_kept false c d h e = h e

-- what fails on a whole list fails on a front of it
list_any_take : {X : Type 0} (test : X → Bool) (n : ℕ) (xs : List X) → list_any test xs ≡ false → list_any test (take n xs) ≡ false
list_any_take test zero xs e = refl
list_any_take test (suc n) [] e = refl
list_any_take test (suc n) (x ∷ xs) e = or_kept (test x) (list_any test xs) (list_any test (take n xs)) (list_any_take test n xs) e

-- the keys of lines are those of clients from 1
abbrev pub HaveKeys : List AskLine → Type 0
HaveKeys asks = AllByRecursion (λ asked. IsKey asked.key) asks

-- the key of client 0 with this request
abbrev pub own_key : ℕ → Key
own_key request = record { client = 0; request = request }

-- one more line
pub asks_with_keys_from-push : (running : ℕ) (asks : List AskLine) (asked : AskLine)
    → asks_with_keys_from running (asks ++ asked ∷ []) ≡ asks_with_keys_from running asks
    ++ (key_of_line (running_from running asks) asked.key, asked.call) ∷ []
asks_with_keys_from-push running [] asked = refl
asks_with_keys_from-push running (first ∷ asks) asked =
    ap (λ rest. (key_of_line running first.key, first.call) ∷ rest) (asks_with_keys_from-push (running_after running first.key) asks asked)

pub running_from-push : (running : ℕ) (asks : List AskLine) (asked : AskLine)
    → running_from running (asks ++ asked ∷ []) ≡ running_after (running_from running asks) asked.key
running_from-push running [] asked = refl
running_from-push running (first ∷ asks) asked = running_from-push (running_after running first.key) asks asked

pub HaveKeys-push : (asks : List AskLine) (asked : AskLine) → HaveKeys asks → IsKey asked.key → HaveKeys (asks ++ asked ∷ [])
HaveKeys-push [] asked h k = (k, tt)
HaveKeys-push (first ∷ asks) asked h k = (h.0, HaveKeys-push asks asked h.1 k)

true_is_false : true ≡ false → ⊥
true_is_false e = cc

-- another request of client 0 has another key
other_request : (j k : ℕ) → k < j → same_key (own_key j) (own_key k) ≡ false
other_request j k l = false_from_ne_true (same_key (own_key j) (own_key k)) (λ e. let same : j ≡ k = eqb-true j k e in omega arith)

-- so has another client
other_client : (j : ℕ) (key : Key) → 1 ≤ key.client → same_key (own_key j) key ≡ false
other_client j key l = false_from_ne_true (same_key (own_key j) key) (λ e. let same : 0 ≡ key.client =
    eqb-true 0 key.client (and_parts (0 == key.client) (j == key.request) e).0 in omega arith)

-- no request from this number on has been asked by client 0
abbrev pub IsFresh : ℕ → List (Key × Call) → Type 0
IsFresh running before = (j : ℕ) → running ≤ j → has_key before (own_key j) ≡ false

fresh_push : (running : ℕ) (before : List (Key × Call)) (key : Option Key) (call : Call) → IsKey key → IsFresh running before
    → IsFresh (running_after running key) (before ++ (key_of_line running key, call) ∷ [])
fresh_push running before None call k fresh j l =
    list_any-append (λ ask. same_key (own_key j) ask.0) before ((own_key running, call) ∷ [])
    ∙ ap (λ b. b || (same_key (own_key j) (own_key running) || false)) (fresh j (omega arith))
    ∙ ap (λ b. b || false) (other_request j running (omega arith))
fresh_push running before (Some key) call k fresh j l =
    list_any-append (λ ask. same_key (own_key j) ask.0) before ((key, call) ∷ [])
    ∙ ap (λ b. b || (same_key (own_key j) key || false)) (fresh j l)
    ∙ ap (λ b. b || false) (other_client j key k.0)

-- one more first ask, if the test of its key fails
longer : {X : Type 0} (skips : Bool) (x : X) (xs : List X) (n running : ℕ) → skips ≡ false → n ≤ (running + 1) + length xs
    → n ≤ running + length (if skips then xs else x ∷ xs)
longer true x xs n running e l = absurd (true_is_false e)
longer false x xs n running e l = omega arith

-- as many first asks, whatever the test of the key answers
as_long : {X : Type 0} (skips : Bool) (x : X) (xs : List X) (n running : ℕ) → n ≤ running + length xs → n ≤ running + length (if skips then xs else x ∷ xs)
as_long true x xs n running l = l
as_long false x xs n running l = omega arith

-- each line without a key is a first ask
pub running_within : (running : ℕ) (before : List (Key × Call)) (asks : List AskLine) → HaveKeys asks → IsFresh running before
    → running_from running asks ≤ running + length (firsts_after before (asks_with_keys_from running asks))
running_within running before [] h fresh = omega arith
running_within running before (asked ∷ asks) h fresh =
    by asked.key (running_within (running_after running asked.key) (before ++ (key_of_line running asked.key, asked.call) ∷ []) asks h.1
    (fresh_push running before asked.key asked.call h.0 fresh))
  where
    by : (key : Option Key) → running_from (running_after running key) asks
        ≤ running_after running key + length
        (firsts_after (before ++ (key_of_line running key, asked.call) ∷ []) (asks_with_keys_from (running_after running key) asks))
        → running_from (running_after running key) asks ≤ running + length (if has_key before (key_of_line running key)
        then firsts_after (before ++ (key_of_line running key, asked.call) ∷ []) (asks_with_keys_from (running_after running key) asks)
        else (key_of_line running key, asked.call) ∷ firsts_after (before ++ (key_of_line running key, asked.call) ∷ [])
        (asks_with_keys_from (running_after running key) asks))
    by None l = longer (has_key before (own_key running)) (own_key running, asked.call) _ (running_from (running + 1) asks) running
        (fresh running (omega arith)) l
    by (Some key) l = as_long (has_key before key) (key, asked.call) _ (running_from running asks) running l

-- a line without a key has a new one
pub fresh_after : (running : ℕ) (before : List (Key × Call)) (asks : List AskLine) → HaveKeys asks → IsFresh running before
    → IsFresh (running_from running asks) (before ++ asks_with_keys_from running asks)
fresh_after running before [] h fresh j l = ap (λ asks. has_key asks (own_key j)) (append-nil before) ∙ fresh j l
fresh_after running before (asked ∷ asks) h fresh j l =
    ap (λ asks. has_key asks (own_key j))
    (sym (append_assoc before ((key_of_line running asked.key, asked.call) ∷ []) (asks_with_keys_from (running_after running asked.key) asks)))
    ∙ fresh_after (running_after running asked.key) (before ++ (key_of_line running asked.key, asked.call) ∷ []) asks h.1
    (fresh_push running before asked.key asked.call h.0 fresh) j l

-- and no entry of the log has it
pub absent_from_log : (asks : List AskLine) (running : ℕ) → HaveKeys asks → running ≡ running_from 1 asks → has_key (log_of_asks asks) (own_key running) ≡ false
unfolding first_asks
absent_from_log asks running h e =
    list_any_take (λ ask. same_key (own_key running) ask.0) LOG_CALLS (firsts_after [] (asks_with_keys asks))
    (has_key-firsts_after [] (asks_with_keys asks) (own_key running) ∙ fresh_after 1 [] asks h (λ j k. refl) running (omega (arith, e)))

-- if the running number is beyond what a request can be, the log is full
pub full_log : (asks : List AskLine) (running : ℕ) → HaveKeys asks → running ≡ running_from 1 asks → 2 ^ 32 ≤ running → LOG_CALLS ≤ length (log_of_asks asks)
unfolding first_asks
full_log asks running h e l =
    let within = running_within 1 [] asks h (λ j k. refl) in
    let cut = length-take LOG_CALLS (firsts_after [] (asks_with_keys asks)) in
    omega (arith, within, cut)
