-- What lines ask, one line at a time.
use Rattle.std.proofs.Common.{◌≡◌, ℕ, ◌+◌, ◌≤◌, Option, Some, None, Result, Ok, Err, IsOk, MatchResult, subst, true≢false, List, [], ◌∷◌, ◌++◌, length, map, refl, sym, ap, ◌∙◌, arith}
use Rattle.sb_rows.specs.Opening.{◌>>=◌, at_line}
use Rattle.sb_calls.specs.Ask.{ask_line_of, IsAskLine, IsKey}
use Rattle.sb_calls.proofs.AskSpelling.{ask_is_spelled}
use Rattle.sb_calls.specs.declared.ask.AskLine.{AskLine}
use Rattle.sb_calls.specs.declared.ask.Key.{Key}
use Rattle.sb_calls.specs.declared.call.Call.{Call}
use Rattle.sb_calls.specs.declared.text.fault.CallFault.{CallFault}
use Rattle.sb_sequencer.specs.Numbering.{first_asks}
use Rattle.bank_server.specs.inner.AskSteps.{IsAfterAsks}
use Rattle.bank_server.specs.Asks.{asks_with_keys, key_of_line, running_after}
use Rattle.bank_server.specs.Input.{asks_from}
use Rattle.bank_server.specs.Standing.{standing_of}
use Rattle.bank_server.specs.Output.{log_of_asks}
use Rattle.bank_server.specs.declared.input.asking.Standing.{Standing}
use Rattle.bank_server.proofs.lines.LineKeys.{asks_with_keys_from-push, running_from-push, HaveKeys-push}
use Rattle.bank_server.proofs.lines.Standings.{standings_after}

-- a line without a fault is asked last
pub asks_from-line : (first : ℕ) (before : List AskLine) (line : List ℕ) (ls : List (List ℕ)) (asked : AskLine) → ask_line_of line ≡ Ok asked
    → asks_from first before (line ∷ ls) ≡ asks_from first (before ++ asked ∷ []) ls
unfolding asks_from
asks_from-line first before line ls asked e = ap (λ r. at_line (first + length before) r >>= λ a. asks_from first (before ++ a ∷ []) ls) e

-- a line at fault ends them
pub asks_from-fault : (first : ℕ) (before : List AskLine) (line : List ℕ) (ls : List (List ℕ)) (fault : CallFault) → ask_line_of line ≡ Err fault
    → asks_from first before (line ∷ ls) ≡ Err (first + length before, fault)
unfolding asks_from
asks_from-fault first before line ls fault e = ap (λ r. at_line (first + length before) r >>= λ a. asks_from first (before ++ a ∷ []) ls) e

-- an ask that was read is a valid one
pub asked_is_valid : (line : List ℕ) (asked : AskLine) → ask_line_of line ≡ Ok asked → IsAskLine asked
asked_is_valid line asked e = (ask_is_spelled line (Ok asked) (sym e)).0

-- what was appended without a fault was asked
pub pushed_is_asked : {A : Type 0} (P : Type 0) (read : Result AskLine CallFault) (result : Result A CallFault) (old new : List AskLine)
    → MatchResult read (λ asked. IsOk result × (new ≡ old ++ asked ∷ [])) (λ fault. (result ≡ Err fault) × P)
    → IsOk result → (asked : AskLine) × (read ≡ Ok asked) × (new ≡ old ++ asked ∷ [])
pushed_is_asked P (Ok asked) result old new h ok = (asked, refl, h.1)
pushed_is_asked P (Err fault) result old new h ok = absurd (true≢false (sym (subst IsOk h.0 ok)))

-- the fault of a result, or this one
fault_or : {A : Type 0} → CallFault → Result A CallFault → CallFault
fault_or default (Ok value) = default
fault_or default (Err fault) = fault

-- a fault of what was to be appended is that of the line
pub fault_is_asked : {A : Type 0} (P : Type 0) (read : Result AskLine CallFault) (result : Result A CallFault) (old new : List AskLine) (fault : CallFault)
    → MatchResult read (λ asked. IsOk result × (new ≡ old ++ asked ∷ [])) (λ fault. (result ≡ Err fault) × P)
    → result ≡ Err fault → (read ≡ Err fault) × P
unfolding fault_or
fault_is_asked P (Ok asked) result old new fault h e = absurd (true≢false (sym (subst IsOk e h.0)))
fault_is_asked P (Err other) result old new fault h e = (ap Err (ap (fault_or other) (sym h.0 ∙ e)), h.1)

-- if no line is left, those before are all
pub asks_from-end : (first : ℕ) (before : List AskLine) → asks_from first before [] ≡ Ok before
unfolding asks_from
asks_from-end first before = refl

-- the lines with their keys, and one more
pub asks_with_keys-push : (asks : List AskLine) (asked : AskLine) (running : ℕ) (log : List (Key × Call)) → IsAfterAsks asks running log
    → asks_with_keys (asks ++ asked ∷ []) ≡ asks_with_keys asks ++ (key_of_line running asked.key, asked.call) ∷ []
asks_with_keys-push asks asked running log after =
    asks_with_keys_from-push 1 asks asked ∙ ap (λ n. asks_with_keys asks ++ (key_of_line n asked.key, asked.call) ∷ []) (sym after.running_is)

-- the state after one more line
pub after_push : (asks : List AskLine) (asked : AskLine) (running next : ℕ) (log new : List (Key × Call)) → IsAfterAsks asks running log → IsKey asked.key
    → next ≡ running_after running asked.key → new ≡ first_asks (asks_with_keys asks ++ (key_of_line running asked.key, asked.call) ∷ [])
    → IsAfterAsks (asks ++ asked ∷ []) next new
after_push asks asked running next log new after key e h = record {
  keys = HaveKeys-push asks asked after.keys key;
  running_is = e ∙ ap (λ n. running_after n asked.key) after.running_is ∙ sym (running_from-push 1 asks asked);
  log_is = h ∙ ap first_asks (sym (asks_with_keys-push asks asked running log after));
}

map_push : {A B : Type 0} (f : A → B) (xs : List A) (x : A) → map f (xs ++ x ∷ []) ≡ map f xs ++ f x ∷ []
map_push f [] x = refl
map_push f (y ∷ xs) x = ap (λ rest. f y ∷ rest) (map_push f xs x)

-- the standings, with one more
pub standings_push : (asks : List AskLine) (asked : AskLine) (running : ℕ) (log new : List (Key × Call)) (standings : List Standing) (standing : Standing)
    → IsAfterAsks asks running log
    → new ≡ first_asks (asks_with_keys asks ++ (key_of_line running asked.key, asked.call) ∷ [])
    → standing ≡ standing_of new (key_of_line running asked.key, asked.call)
    → standings ≡ map (standing_of log) (asks_with_keys asks) → standings ++ standing ∷ [] ≡ map (standing_of new) (asks_with_keys (asks ++ asked ∷ []))
standings_push asks asked running log new standings standing after h e told =
    let ask : Key × Call = (key_of_line running asked.key, asked.call) in
    let before : standings ≡ map (standing_of new) (asks_with_keys asks) =
    told ∙ ap (λ l. map (standing_of l) (asks_with_keys asks)) after.log_is ∙ sym (standings_after (asks_with_keys asks) ask)
    ∙ ap (λ l. map (standing_of l) (asks_with_keys asks)) (sym h) in
    (λ j. before j ++ e j ∷ []) ∙ sym (map_push (standing_of new) (asks_with_keys asks) ask)
    ∙ ap (map (standing_of new)) (sym (asks_with_keys-push asks asked running log after))

-- before any line the log is empty
pub log_of_asks-nil : log_of_asks [] ≡ []
unfolding first_asks
log_of_asks-nil = refl

-- the running number grows by at most one
pub running_after_le : (running : ℕ) (key : Option Key) → running_after running key ≤ running + 1
running_after_le running None = omega arith
running_after_le running (Some key) = omega arith
