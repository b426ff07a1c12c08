-- A log after one more ask.
use Rattle.std.proofs.Common.{◌≡◌, ◌≢◌, ℕ, ◌<◌, ◌≤◌, Bool, Some, None, is_some, get_or, Result, Ok, Err, true, false, ◌||◌, if◌then◌else◌, nat_le, List, [], ◌∷◌, ◌++◌, length, take, inl, inr, refl, sym, ap, subst, ◌∙◌, arith, append-nil, append_assoc}
use Rattle.std.proofs.lemmas.Bool.{cond-true, cond-false, or_left, or_right, or_from, le-leb, lt-leb, cases_lt, both_ways}
use Rattle.std.proofs.lemmas.List.{take_all, take-append-le, length-take-le, length_push}
use Rattle.std.proofs.lemmas.List.Quantifiers.{all_pairs_push}
use Rattle.sb_calls.specs.declared.ask.Key.{Key}
use Rattle.sb_calls.specs.declared.call.Call.{Call}
use Rattle.sb_sequencer.specs.Answer.{AnswersAsk, LogAfter}
use Rattle.sb_sequencer.specs.Log.{log_with, log_after}
use Rattle.sb_sequencer.specs.Numbering.{same_key, has_key, firsts_after, first_asks, index_of_key, IsLog}
use Rattle.sb_sequencer.specs.declared.answer.AskFault.{AskFault}
use Rattle.sb_sequencer.specs.declared.answer.AskFault.TheVariants.{Mismatch, LogFull, OutOfMemory}
use Rattle.sb_sequencer.specs.declared.answer.Numbered.{Numbered}
use Rattle.sb_sequencer.specs.declared.answer.Numbered.TheVariants.{New, Repeat}
use Rattle.sb_calls.specs.declared.call.TheConstants.{LOG_CALLS}
use Rattle.sb_sequencer.proofs.FirstAsks.{firsts_after-push, has_key-firsts_after}
use Rattle.sb_sequencer.proofs.Keys.{same_key_itself, absent_without_index, has_key-place}

-- `log_with` at any number of calls
step : ℕ → List (Key × Call) → Key × Call → List (Key × Call)
step room log ask = if has_key log ask.0 || nat_le room (length log) then log else log ++ ask ∷ []

-- a key that is in the log leaves the log
step-known : (room : ℕ) (log : List (Key × Call)) (ask : Key × Call) → has_key log ask.0 ≡ true → step room log ask ≡ log
unfolding step
step-known room log ask e = cond-true _ log (log ++ ask ∷ []) (or_left (has_key log ask.0) (nat_le room (length log)) e)

-- so does a full log
step-full : (room : ℕ) (log : List (Key × Call)) (ask : Key × Call) → room ≤ length log → step room log ask ≡ log
unfolding step
step-full room log ask l =
    cond-true _ log (log ++ ask ∷ []) (or_right (has_key log ask.0) (nat_le room (length log)) (le-leb room (length log) l))

-- otherwise the ask is appended
step-new : (room : ℕ) (log : List (Key × Call)) (ask : Key × Call) → has_key log ask.0 ≡ false → length log < room
    → step room log ask ≡ log ++ ask ∷ []
unfolding step
step-new room log ask e l =
    cond-false _ log (log ++ ask ∷ []) (or_from (has_key log ask.0) (nat_le room (length log)) e (lt-leb room (length log) l))

-- the front of the first asks, after one more ask, is the step of their front
take-step : (room : ℕ) (firsts : List (Key × Call)) (ask : Key × Call)
    → take room (firsts ++ (if has_key firsts ask.0 then [] else ask ∷ [])) ≡ step room (take room firsts) ask
take-step room firsts ask = elim (cases_lt (length firsts) room) [ inl l ↦ below l | inr l ↦ full l ]
  where
    full : room ≤ length firsts → take room (firsts ++ (if has_key firsts ask.0 then [] else ask ∷ [])) ≡ step room (take room firsts) ask
    full l =
        take-append-le room firsts (if has_key firsts ask.0 then [] else ask ∷ []) l
        ∙ sym (step-full room (take room firsts) ask (omega (arith, length-take-le room firsts l)))

    whole : length firsts < room → take room firsts ≡ firsts
    whole l = take_all room firsts (omega arith)

    below : length firsts < room → take room (firsts ++ (if has_key firsts ask.0 then [] else ask ∷ [])) ≡ step room (take room firsts) ask
    below l = by (has_key firsts ask.0) refl
      where
        by : (known : Bool) → has_key firsts ask.0 ≡ known → take room (firsts ++ (if known then [] else ask ∷ [])) ≡ step room (take room firsts) ask
        by true e =
            ap (take room) (append-nil firsts)
            ∙ whole l
            ∙ sym (step-known room firsts ask e)
            ∙ ap (λ log. step room log ask) (sym (whole l))
        by false e =
            take_all room (firsts ++ ask ∷ []) (omega (arith, length_push firsts ask))
            ∙ sym (step-new room firsts ask e l)
            ∙ ap (λ log. step room log ask) (sym (whole l))

-- so the first asks, up to a number of them, step with each ask
take_firsts-push : (room : ℕ) (asks : List (Key × Call)) (ask : Key × Call)
    → take room (firsts_after [] (asks ++ ask ∷ [])) ≡ step room (take room (firsts_after [] asks)) ask
take_firsts-push room asks ask =
    let firsts = firsts_after [] asks in
    ap (take room) (firsts_after-push [] asks ask)
    ∙ ap (λ known. take room (firsts ++ (if known then [] else ask ∷ []))) (sym (has_key-firsts_after [] asks ask.0))
    ∙ take-step room firsts ask

-- the first asks after one more are the log with it
pub first_asks-push : (asks : List (Key × Call)) (ask : Key × Call) → first_asks (asks ++ ask ∷ []) ≡ log_with (first_asks asks) ask
unfolding first_asks log_with step
first_asks-push = take_firsts-push LOG_CALLS

-- asks that come one by one after some leave the first asks of all
log_after-first_asks : (done asks : List (Key × Call)) → log_after (first_asks done) asks ≡ first_asks (done ++ asks)
log_after-first_asks done [] = ap first_asks (sym (append-nil done))
log_after-first_asks done (ask ∷ asks) =
    ap (λ log. log_after log asks) (sym (first_asks-push done ask))
    ∙ log_after-first_asks (done ++ ask ∷ []) asks
    ∙ ap first_asks (append_assoc done (ask ∷ []) asks)

-- asks that come one by one from an empty log leave the first ask of each key
pub log_after-empty : (asks : List (Key × Call)) → log_after [] asks ≡ first_asks asks
unfolding first_asks
log_after-empty asks = log_after-first_asks [] asks

-- a key that has a place leaves the log
pub log_with-known : (log : List (Key × Call)) (ask : Key × Call) (place : ℕ) → index_of_key log ask.0 ≡ Some place → log_with log ask ≡ log
unfolding log_with step
log_with-known log ask place e = step-known LOG_CALLS log ask (has_key-place log ask.0 ∙ ap is_some e)

-- so does any ask at a full log
pub log_with-full : (log : List (Key × Call)) (ask : Key × Call) → LOG_CALLS ≤ length log → log_with log ask ≡ log
unfolding log_with step
log_with-full = step-full LOG_CALLS

-- a key without a place is appended while there is room
pub log_with-new : (log : List (Key × Call)) (ask : Key × Call) → index_of_key log ask.0 ≡ None → length log < LOG_CALLS
    → log_with log ask ≡ log ++ ask ∷ []
unfolding log_with step
log_with-new log ask e = step-new LOG_CALLS log ask (has_key-place log ask.0 ∙ ap is_some e)

-- and the log stays valid
pub IsLog-push : (log : List (Key × Call)) (ask : Key × Call) → IsLog log → index_of_key log ask.0 ≡ None → length log < LOG_CALLS
    → IsLog (log ++ ask ∷ [])
IsLog-push log ask h new room = record {
  limit = omega (arith, length_push log ask);
  different = all_pairs_push (λ a b. a.0 ≢ b.0) log ask h.different (λ k d l e.
      both_ways (same_key ask.0 (get_or log k d).0) (absent_without_index log ask.0 new k d l)
      (ap (same_key ask.0) e ∙ same_key_itself ask.0));
}

-- so the answer to an ask, and the log after it, are the log's step, unless memory is refused
pub log_with-answered : (old new : List (Key × Call)) (ask : Key × Call) (result : Result Numbered AskFault) → AnswersAsk old ask result
    → LogAfter old ask result new → result ≢ Err OutOfMemory → new ≡ log_with old ask
log_with-answered old new ask (Ok (New n)) h e _ = e ∙ sym (log_with-new old ask h.0 h.1)
log_with-answered old new ask (Ok (Repeat n)) h e _ = e ∙ sym (log_with-known old ask h.0 h.1)
log_with-answered old new ask (Err (Mismatch n)) h e _ = e ∙ sym (log_with-known old ask h.0 h.1)
log_with-answered old new ask (Err LogFull) h e _ = e ∙ sym (log_with-full old ask h.1)
log_with-answered old new ask (Err OutOfMemory) h e other = absurd (other refl)

-- and the log after it is valid
pub IsLog-answered : (old new : List (Key × Call)) (ask : Key × Call) (result : Result Numbered AskFault) → IsLog old → AnswersAsk old ask result
    → LogAfter old ask result new → IsLog new
IsLog-answered old new ask (Ok (New n)) is h e = subst IsLog (sym e) (IsLog-push old ask is h.0 h.1)
IsLog-answered old new ask (Ok (Repeat n)) is h e = subst IsLog (sym e) is
IsLog-answered old new ask (Err fault) is h e = subst IsLog (sym e) is

-- so a log of first asks is then the first asks with this one
pub first_asks-answered : (asks old new : List (Key × Call)) (ask : Key × Call) (result : Result Numbered AskFault) → AnswersAsk old ask result
    → LogAfter old ask result new → result ≢ Err OutOfMemory → old ≡ first_asks asks → new ≡ first_asks (asks ++ ask ∷ [])
first_asks-answered asks old new ask result answered log other e =
    log_with-answered old new ask result answered log other
    ∙ ap (λ firsts. log_with firsts ask) e
    ∙ sym (first_asks-push asks ask)
