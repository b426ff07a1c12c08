-- The outcomes of asks, in a log that goes on.
use Rattle.std.proofs.Common.{◌≡◌, ℕ, zero, suc, ◌+◌, ◌-◌, ◌<◌, Bool, true, false, ◌||◌, if◌then◌else◌, Option, Some, None, List, [], ◌∷◌, ◌++◌, length, refl, sym, ap, ◌∙◌, arith, inl, inr}
use Rattle.std.specs.Prelude.{◌⊎◌, slice_get, nat_le}
use Rattle.std.proofs.lemmas.List.{length-map}
use Rattle.std.proofs.lemmas.List.Quantifiers.{position-Some}
use Rattle.sb_rows.specs.Rows.{Rows}
use Rattle.sb_calls.specs.Log.{replies_to}
use Rattle.sb_calls.specs.Procedures.{procedure}
use Rattle.sb_calls.specs.declared.ask.Key.{Key}
use Rattle.sb_calls.specs.declared.call.Call.{Call}
use Rattle.sb_calls.specs.declared.call.TheConstants.{LOG_CALLS}
use Rattle.sb_calls.specs.declared.reply.Reply.{Reply}
use Rattle.sb_sequencer.proofs.LogSteps.{first_asks-push}
use Rattle.sb_sequencer.specs.Log.{log_with}
use Rattle.sb_sequencer.specs.Numbering.{first_asks, has_key, index_of_key, same_key, calls_of}
use Rattle.bank_server.specs.Session.{outcome_by, outcome_of, outcome_of_reply}
use Rattle.bank_server.specs.Standing.{numbered_standing, same_call, standing_at, standing_of}
use Rattle.bank_server.specs.declared.input.asking.Standing.{Standing}
use Rattle.bank_server.specs.declared.input.asking.Standing.TheVariants.{Number, Mismatch, LogFull}

number_is : {m n : ℕ} → Number m ≡ Number n → m ≡ n
number_is h = cc

mismatch_is_none : {m n : ℕ} → Mismatch m ≡ Number n → ⊥
mismatch_is_none h = cc

full_is_none : {n : ℕ} → LogFull ≡ Number n → ⊥
full_is_none h = cc

get_kept : {A : Type 0} (xs ys : List A) (k : ℕ) → k < length xs → slice_get (xs ++ ys) k ≡ slice_get xs k
get_kept [] ys k lt = absurd (omega (arith, lt))
get_kept (x ∷ xs) ys zero lt = refl
get_kept (x ∷ xs) ys (suc k) lt = get_kept xs ys k (omega (arith, lt))

-- ---- the replies

replies_push : (rows : Rows) (calls : List Call) (call : Call) → (reply : Reply) × (replies_to rows (calls ++ call ∷ []) ≡ replies_to rows calls ++ reply ∷ [])
replies_push rows [] call = ((procedure call rows).reply, refl)
replies_push rows (c ∷ calls) call =
    let more = replies_push (procedure c rows).rows calls call in (more.0, ap (λ l. (procedure c rows).reply ∷ l) more.1)

length-replies : (rows : Rows) (calls : List Call) → length (replies_to rows calls) ≡ length calls
length-replies rows [] = refl
length-replies rows (call ∷ calls) = ap suc (length-replies (procedure call rows).rows calls)

calls_push : (log : List (Key × Call)) (entry : Key × Call) → calls_of (log ++ entry ∷ []) ≡ calls_of log ++ entry.1 ∷ []
calls_push [] entry = refl
calls_push (e ∷ log) entry = ap (λ l. e.1 ∷ l) (calls_push log entry)

-- ---- a number is one of the log

by_test : (k n : ℕ) (same : Bool) → (if same then Number (k + 1) else Mismatch (k + 1)) ≡ Number n → n ≡ k + 1
by_test k n true is = sym (number_is is)
by_test k n false is = absurd (mismatch_is_none is)

by_entry : (k n : ℕ) (call : Call) (entry : Option (Key × Call)) → numbered_standing (k + 1) call entry ≡ Number n → n ≡ k + 1
by_entry k n call None is = absurd (full_is_none is)
by_entry k n call (Some entry) is = by_test k n (same_call entry.1 call) is

pub number_of_log : (log : List (Key × Call)) (ask : Key × Call) (n : ℕ) → standing_of log ask ≡ Number n → n - 1 < length log
number_of_log log ask n = by (index_of_key log ask.0) refl
  where
    by : (place : Option ℕ) → index_of_key log ask.0 ≡ place → standing_at log ask.1 place ≡ Number n → n - 1 < length log
    by None e is = absurd (full_is_none is)
    by (Some k) e is =
        let within = (position-Some (λ (other : Key × Call). same_key ask.0 other.0) log k ask e).0 in
        omega (arith, within, by_entry k n ask.1 (slice_get log k) is)

-- ---- one entry more

told_so : (opening : Rows) (log : List (Key × Call)) (entry : Key × Call) (key : Key) (standing : Standing)
    → ((n : ℕ) → standing ≡ Number n → n - 1 < length log)
    → outcome_by (replies_to opening (calls_of (log ++ entry ∷ []))) key standing ≡ outcome_by (replies_to opening (calls_of log)) key standing
told_so opening log entry key (Number n) among =
    let more = replies_push opening (calls_of log) entry.1 in
    let size : length (replies_to opening (calls_of log)) ≡ length log = length-replies opening (calls_of log) ∙ length-map log (λ e. e.1) in
    ap (λ calls. outcome_of_reply key (slice_get (replies_to opening calls) (n - 1))) (calls_push log entry)
    ∙ ap (λ replies. outcome_of_reply key (slice_get replies (n - 1))) more.1
    ∙ ap (outcome_of_reply key) (get_kept (replies_to opening (calls_of log)) (more.0 ∷ []) (n - 1) (omega (arith, size, among n refl)))
told_so opening log entry key (Mismatch n) among = refl
told_so opening log entry key LogFull among = refl

-- with one more entry, an ask with the same standing has the same outcome
pub ended_so : (opening : Rows) (log : List (Key × Call)) (entry ask : Key × Call) → standing_of (log ++ entry ∷ []) ask ≡ standing_of log ask
    → outcome_of opening (log ++ entry ∷ []) ask ≡ outcome_of opening log ask
ended_so opening log entry ask same =
    ap (outcome_by (replies_to opening (calls_of (log ++ entry ∷ []))) ask.0) same
    ∙ told_so opening log entry ask.0 (standing_of log ask) (number_of_log log ask)

grown : (log : List (Key × Call)) (ask : Key × Call) → (log_with log ask ≡ log) ⊎ (log_with log ask ≡ log ++ ask ∷ [])
unfolding log_with
grown log ask = by (has_key log ask.0 || nat_le LOG_CALLS (length log))
  where
    by : (b : Bool) → ((if b then log else log ++ ask ∷ []) ≡ log) ⊎ ((if b then log else log ++ ask ∷ []) ≡ log ++ ask ∷ [])
    by true = inl refl
    by false = inr refl

-- the same with one more ask
pub ended_as_before : (opening : Rows) (asks : List (Key × Call)) (more ask : Key × Call)
    → standing_of (first_asks (asks ++ more ∷ [])) ask ≡ standing_of (first_asks asks) ask
    → outcome_of opening (first_asks (asks ++ more ∷ [])) ask ≡ outcome_of opening (first_asks asks) ask
ended_as_before opening asks more ask same = elim (grown (first_asks asks) more) [
  | inl stays ↦ ap (λ log. outcome_of opening log ask) (first_asks-push asks more ∙ stays)
  | inr grows ↦ let log : first_asks (asks ++ more ∷ []) ≡ first_asks asks ++ more ∷ [] = first_asks-push asks more ∙ grows in
      ap (λ l. outcome_of opening l ask) log
      ∙ ended_so opening (first_asks asks) more ask (ap (λ l. standing_of l ask) (sym log) ∙ same)
]
