-- The standing of an ask in a log that goes on.
use Rattle.std.proofs.Common.{◌≡◌, ℕ, zero, suc, Option, Some, None, Result, Ok, Err, List, [], ◌∷◌, ◌++◌, length, map, drop, sym, ap, ◌∙◌, append_assoc, append-nil, refl}
use Rattle.std.specs.Prelude.{slice_get}
use Rattle.sb_calls.specs.declared.ask.Key.{Key}
use Rattle.sb_calls.specs.declared.call.Call.{Call}
use Rattle.sb_sequencer.proofs.LogSteps.{first_asks-push, log_with-known, log_with-full, log_with-new}
use Rattle.sb_sequencer.specs.Answer.{AnswersAsk}
use Rattle.sb_sequencer.specs.Numbering.{first_asks}
use Rattle.sb_sequencer.specs.Log.{log_with}
use Rattle.sb_sequencer.specs.declared.answer.AskFault.{AskFault}
use Rattle.sb_sequencer.specs.declared.answer.AskFault.TheVariants as faults
use Rattle.sb_sequencer.specs.declared.answer.Numbered.{Numbered}
use Rattle.sb_sequencer.specs.declared.answer.Numbered.TheVariants.{New, Repeat}
use Rattle.bank_server.specs.AskResults.{AnswersAreFinal, standing_of_answer}
use Rattle.bank_server.specs.Standing.{standing_of}
use Rattle.bank_server.specs.declared.input.asking.Standing.{Standing}
use Rattle.bank_server.proofs.lines.Standings.{answered_new, answered_repeat, answered_mismatch, answered_full, standings_after}

some_is : {A : Type 0} {x y : A} → ◌≡◌ {A = Option A} (Some x) (Some y) → x ≡ y
some_is h = cc

none_is : {A : Type 0} {x : A} → ◌≡◌ {A = Option A} None (Some x) → ⊥
none_is h = cc

-- in the log with the ask
at_once : (log : List (Key × Call)) (ask : Key × Call) (answer : Result Numbered AskFault) (standing : Standing)
    → AnswersAsk log ask answer → standing_of_answer answer ≡ Some standing → standing_of (log_with log ask) ask ≡ standing
at_once log ask (Ok (New n)) standing h is =
    ap (λ l. standing_of l ask) (log_with-new log ask h.0 h.1) ∙ sym (answered_new log ask n h) ∙ some_is is
at_once log ask (Ok (Repeat n)) standing h is =
    ap (λ l. standing_of l ask) (log_with-known log ask h.0 h.1) ∙ sym (answered_repeat log ask n h) ∙ some_is is
at_once log ask (Err (faults.Mismatch n)) standing h is =
    ap (λ l. standing_of l ask) (log_with-known log ask h.0 h.1) ∙ sym (answered_mismatch log ask n h) ∙ some_is is
at_once log ask (Err faults.LogFull) standing h is =
    ap (λ l. standing_of l ask) (log_with-full log ask h.1) ∙ sym (answered_full log ask h.0) ∙ some_is is
at_once log ask (Err faults.OutOfMemory) standing h is = absurd (none_is is)

map_at : {A : Type 0} (f g : A → Standing) (xs : List A) (k : ℕ) (x : A) → slice_get xs k ≡ Some x → map f xs ≡ map g xs → f x ≡ g x
map_at f g [] k x at same = absurd (none_is at)
map_at f g (y ∷ xs) zero x at same =
    let first : f y ≡ g y = some_is (ap (λ l. slice_get l 0) same) in
    ap f (sym (some_is at)) ∙ first ∙ ap g (some_is at)
map_at f g (y ∷ xs) (suc k) x at same = map_at f g xs k x at (ap (drop 1) same)

get_longer : {A : Type 0} (xs ys : List A) (k : ℕ) (x : A) → slice_get xs k ≡ Some x → slice_get (xs ++ ys) k ≡ Some x
get_longer [] ys k x at = absurd (none_is at)
get_longer (y ∷ xs) ys zero x at = at
get_longer (y ∷ xs) ys (suc k) x at = get_longer xs ys k x at

get_last : {A : Type 0} (xs : List A) (x : A) → slice_get (xs ++ x ∷ []) (length xs) ≡ Some x
get_last [] x = refl
get_last (y ∷ xs) x = get_last xs x

-- one more ask, and any number of them, leave its standing
one_more : (asks : List (Key × Call)) (more ask : Key × Call) (k : ℕ) → slice_get asks k ≡ Some ask
    → standing_of (first_asks (asks ++ more ∷ [])) ask ≡ standing_of (first_asks asks) ask
one_more asks more ask k at =
    map_at (standing_of (first_asks (asks ++ more ∷ []))) (standing_of (first_asks asks)) asks k ask at (standings_after asks more)

later : (asks after : List (Key × Call)) (ask : Key × Call) (k : ℕ) → slice_get asks k ≡ Some ask
    → standing_of (first_asks (asks ++ after)) ask ≡ standing_of (first_asks asks) ask
later asks [] ask k at = ap (λ l. standing_of (first_asks l) ask) (append-nil asks)
later asks (more ∷ after) ask k at =
    ap (λ l. standing_of (first_asks l) ask) (sym (append_assoc asks (more ∷ []) after))
    ∙ later (asks ++ more ∷ []) after ask k (get_longer asks (more ∷ []) k ask at)
    ∙ one_more asks more ask k at

pub answers_are_final : AnswersAreFinal
answers_are_final before after ask answer standing answered is =
    ap (λ l. standing_of (first_asks l) ask) (sym (append_assoc before (ask ∷ []) after))
    ∙ later (before ++ ask ∷ []) after ask (length before) (get_last before ask)
    ∙ ap (λ l. standing_of l ask) (first_asks-push before ask)
    ∙ at_once (first_asks before) ask answer standing answered is
