-- From the sequencer's answer to the standing of a line.
use Rattle.std.proofs.Common.{◌≡◌, ◌≢◌, ℕ, ◌+◌, ◌==◌, ◌≤◌, ◌^◌, Option, Some, None, Result, Ok, Err, is_some, false, List, [], ◌∷◌, ◌++◌, length, refl, sym, ap, ◌∙◌, arith}
use Rattle.std.proofs.lemmas.Bool.{cond-false, cond-true, ne_eqb}
use Rattle.std.proofs.lemmas.Option.{slice_get_within}
use Rattle.sb_calls.proofs.CownContents.{eqb-refl}
use Rattle.sb_calls.specs.declared.ask.AskLine.{AskLine}
use Rattle.sb_calls.specs.declared.ask.Key.{Key}
use Rattle.sb_calls.specs.declared.call.Call.{Call}
use Rattle.sb_sequencer.proofs.Keys.{has_key-place}
use Rattle.sb_sequencer.proofs.LogSteps.{first_asks-answered, first_asks-push, log_with-full}
use Rattle.sb_sequencer.specs.Answer.{AnswersAsk, LogAfter}
use Rattle.sb_sequencer.specs.Numbering.{has_key, first_asks, index_of_key}
use Rattle.sb_sequencer.specs.declared.answer.AskFault.{AskFault}
use Rattle.sb_sequencer.specs.declared.answer.AskFault.TheVariants as faults
use Rattle.sb_sequencer.specs.declared.answer.Numbered.{Numbered}
use Rattle.sb_sequencer.specs.declared.answer.Numbered.TheVariants.{New, Repeat}
use Rattle.bank_server.specs.inner.AskSteps.{IsAfterAsks, AddsAsk, AddsLineAsk}
use Rattle.bank_server.specs.inner.CountedAsks.{counts_by, counts_with}
use Rattle.bank_server.specs.declared.node0.ask_counts.AskCounts.{AskCounts}
use Rattle.bank_server.specs.AskResults.{standing_of_answer}
use Rattle.bank_server.specs.Asks.{key_of_line, asks_with_keys}
use Rattle.bank_server.specs.Standing.{standing_of}
use Rattle.bank_server.specs.declared.input.asking.Standing.{Standing}
use Rattle.bank_server.specs.declared.input.asking.Standing.TheVariants.{LogFull}
use Rattle.bank_server.proofs.lines.LineKeys.{own_key, absent_from_log, full_log}
use Rattle.bank_server.proofs.lines.Standings.{answered_new, answered_repeat, answered_mismatch, answered_full}

-- a standing in the log as it was is one in the log as it is, if that stayed
by_same_log : {A : Type 0} {old new : List (Key × Call)} {x : A} (f : List (Key × Call) → A) → new ≡ old → x ≡ f old → x ≡ f new
by_same_log f e h = h ∙ ap f (sym e)

some_is : {A : Type 0} {x y : A} → ◌≡◌ {A = Option A} (Some x) (Some y) → x ≡ y
some_is h = cc

none_is_some : {A : Type 0} {x : A} → ◌≡◌ {A = Option A} None (Some x) → ⊥
none_is_some h = cc

-- it is the standing in the log as it is, whatever was asked before
pub stands_so : (old new : List (Key × Call)) (ask : Key × Call) (answer : Result Numbered AskFault) (standing : Standing)
    → standing_of_answer answer ≡ Some standing → AnswersAsk old ask answer → LogAfter old ask answer new → standing ≡ standing_of new ask
stands_so old new ask (Ok (New n)) standing is answered log = sym (some_is is) ∙ by_same_log (λ l. standing_of l ask) log (answered_new old ask n answered)
stands_so old new ask (Ok (Repeat n)) standing is answered log = sym (some_is is)
    ∙ by_same_log (λ l. standing_of l ask) log (answered_repeat old ask n answered)
stands_so old new ask (Err (faults.Mismatch n)) standing is answered log =
    sym (some_is is) ∙ by_same_log (λ l. standing_of l ask) log (answered_mismatch old ask n answered)
stands_so old new ask (Err faults.LogFull) standing is answered log =
    sym (some_is is) ∙ by_same_log (λ l. standing_of l ask) log (answered_full old ask answered.0)
stands_so old new ask (Err faults.OutOfMemory) standing is answered log = absurd (none_is_some is)

-- an answer with a standing isn't that memory was refused
not_refused : (answer : Result Numbered AskFault) (standing : Standing) → standing_of_answer answer ≡ Some standing → answer ≢ Err faults.OutOfMemory
not_refused answer standing is refused = none_is_some (sym (ap standing_of_answer refused) ∙ is)

-- and it is counted by its standing
pub counted_so : (counts : AskCounts) (old : List (Key × Call)) (ask : Key × Call) (answer : Result Numbered AskFault) (standing : Standing)
    → standing_of_answer answer ≡ Some standing → AnswersAsk old ask answer → counts_with counts answer ≡ counts_by (length old) standing counts
counted_so counts old ask (Ok (New n)) standing is answered =
    sym (cond-true (n == length old + 1) _ _ (ap (λ m. m == length old + 1) answered.2 ∙ eqb-refl (length old + 1)))
    ∙ ap (λ s. counts_by (length old) s counts) (some_is is)
counted_so counts old ask (Ok (Repeat n)) standing is answered =
    let before = slice_get_within old answered.0 ask answered.3 in
    sym (cond-false (n == length old + 1) _ _ (ne_eqb n (length old + 1) (λ same. omega (arith, same, before, answered.2))))
    ∙ ap (λ s. counts_by (length old) s counts) (some_is is)
counted_so counts old ask (Err (faults.Mismatch n)) standing is answered = ap (λ s. counts_by (length old) s counts) (some_is is)
counted_so counts old ask (Err faults.LogFull) standing is answered = ap (λ s. counts_by (length old) s counts) (some_is is)
counted_so counts old ask (Err faults.OutOfMemory) standing is answered = absurd (none_is_some is)

-- what the sequencer promises of an answer gives the standing
pub asks_one : (asks old new : List (Key × Call)) (ask : Key × Call) (answer : Result Numbered AskFault) (standing : Standing)
    → standing_of_answer answer ≡ Some standing → old ≡ first_asks asks
    → AnswersAsk old ask answer → LogAfter old ask answer new → AddsAsk asks ask new standing
asks_one asks old new ask answer standing is e answered log = (
  first_asks-answered asks old new ask answer answered log (not_refused answer standing is) e,
  stands_so old new ask answer standing is answered log,
)

some_is_false : (k : ℕ) → is_some (Some k) ≡ false → ⊥
some_is_false k e = cc

-- a key that no entry has is without a place
no_place : (log : List (Key × Call)) (key : Key) → has_key log key ≡ false → index_of_key log key ≡ None
no_place log key e = by (index_of_key log key) refl
  where
    by : (place : Option ℕ) → index_of_key log key ≡ place → index_of_key log key ≡ None
    by None f = f
    by (Some k) f = absurd (some_is_false k (sym (has_key-place log key ∙ ap is_some f) ∙ e))

-- beyond what a request can be, the log is full and doesn't have the key
pub asks_past_requests : (asks : List AskLine) (running : ℕ) (asked : AskLine) (log : List (Key × Call)) → IsAfterAsks asks running log → asked.key ≡ None
    → 2 ^ 32 ≤ running
    → AddsLineAsk asks running asked log (Ok LogFull)
asks_past_requests asks running asked log after none past =
    let first : List (Key × Call) = first_asks (asks_with_keys asks) in
    let ask : Key × Call = (key_of_line running asked.key, asked.call) in
    let full : log ≡ first_asks (asks_with_keys asks ++ ask ∷ []) =
    after.log_is ∙ sym (first_asks-push (asks_with_keys asks) ask ∙ log_with-full first ask (full_log asks running after.keys after.running_is past)) in
    let absent : index_of_key log (key_of_line running asked.key) ≡ None =
    ap (λ l. index_of_key l (key_of_line running asked.key)) after.log_is
    ∙ ap (λ key. index_of_key first (key_of_line running key)) none
    ∙ no_place first (own_key running) (absent_from_log asks running after.keys after.running_is) in
    (full, answered_full log ask absent)
