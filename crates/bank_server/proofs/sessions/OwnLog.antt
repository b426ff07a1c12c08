-- A log is its own first asks.
use Rattle.std.proofs.Common.{◌≡◌, suc, ◌≤◌, Bool, true, false, ◌||◌, if◌then◌else◌, List, [], ◌∷◌, ◌++◌, length, refl, sym, ap, subst, ◌∙◌, arith}
use Rattle.std.specs.Prelude.{◌≢◌}
use Rattle.std.specs.List.{All, AllPairs}
use Rattle.std.proofs.lemmas.List.{take_all}
use Rattle.std.proofs.lemmas.List.Elements.{All-cons, All-head, All-nil, All-tail}
use Rattle.std.proofs.lemmas.List.Folds.{list_any-append}
use Rattle.sb_calls.specs.declared.ask.Key.{Key}
use Rattle.sb_calls.specs.declared.call.Call.{Call}
use Rattle.sb_calls.specs.declared.call.TheConstants.{LOG_CALLS}
use Rattle.sb_sequencer.proofs.Keys.{same_key_same}
use Rattle.sb_sequencer.specs.Numbering.{IsLog, first_asks, firsts_after, has_key, same_key}

differ : (a b : Key) → a ≢ b → same_key b a ≡ false
differ a b other = by (same_key b a) refl
  where
    by : (same : Bool) → same_key b a ≡ same → same_key b a ≡ false
    by true e = absurd (other (sym (same_key_same b a e)))
    by false e = e

-- a key without a place has none after another one was asked
still_new : (before : List (Key × Call)) (ask other : Key × Call) → has_key before other.0 ≡ false → ask.0 ≢ other.0
    → has_key (before ++ ask ∷ []) other.0 ≡ false
still_new before ask other new differs =
    list_any-append (λ (a : Key × Call). same_key other.0 a.0) before (ask ∷ [])
    ∙ ap (λ b. b || (same_key other.0 ask.0 || false)) new
    ∙ ap (λ b. b || false) (differ ask.0 other.0 differs)

abbrev Differs : Key × Call → Key × Call → Type 0
Differs a b = a.0 ≢ b.0

abbrev IsNew : List (Key × Call) → Key × Call → Type 0
IsNew before ask = has_key before ask.0 ≡ false

all_still_new : (before : List (Key × Call)) (ask : Key × Call) (asks : List (Key × Call)) → All (IsNew before) asks → All (Differs ask) asks
    → All (IsNew (before ++ ask ∷ [])) asks
all_still_new before ask [] new other = All-nil (IsNew (before ++ ask ∷ []))
all_still_new before ask (next ∷ asks) new other =
    All-cons (IsNew (before ++ ask ∷ [])) next asks
    (still_new before ask next (All-head (IsNew before) next asks new) (All-head (Differs ask) next asks other))
    (all_still_new before ask asks (All-tail (IsNew before) next asks new) (All-tail (Differs ask) next asks other))

all_first : (before asks : List (Key × Call)) → All (IsNew before) asks → AllPairs Differs asks → firsts_after before asks ≡ asks
all_first before [] new pairs = refl
all_first before (ask ∷ asks) new pairs =
    ap (λ b. if b then firsts_after (before ++ ask ∷ []) asks else ask ∷ firsts_after (before ++ ask ∷ []) asks) (All-head (IsNew before) ask asks new)
    ∙ ap (λ (l : List (Key × Call)). ask ∷ l) (all_first (before ++ ask ∷ []) asks
    (all_still_new before ask asks (All-tail (IsNew before) ask asks new) later) rest)
  where
    later : All (Differs ask) asks
    later k d lt = pairs 0 (suc k) d (omega arith) (omega (arith, lt))

    rest : AllPairs Differs asks
    rest i j d lt within = pairs (suc i) (suc j) d (omega (arith, lt)) (omega (arith, within))

-- the first asks of a log are itself
pub own_log : (log : List (Key × Call)) → IsLog log → first_asks log ≡ log
unfolding first_asks
own_log log is = take_all LOG_CALLS (firsts_after [] log) few ∙ same
  where
    same : firsts_after [] log ≡ log
    same = all_first [] log (λ k d lt. refl) is.different

    few : length (firsts_after [] log) ≤ LOG_CALLS
    few = subst (λ (l : List (Key × Call)). length l ≤ LOG_CALLS) (sym same) is.limit
