-- The outcome of an ask in a log that goes on.
use Rattle.std.proofs.Common.{◌≡◌, ℕ, ◌≤◌, Option, Some, None, List, [], ◌∷◌, ◌++◌, length, true≢false, refl, sym, ap, ◌∙◌, arith, append_assoc, append-nil, length-append, inl, inr}
use Rattle.std.specs.Prelude.{IsSome}
use Rattle.sb_rows.specs.Rows.{Rows}
use Rattle.sb_calls.specs.declared.ask.Key.{Key}
use Rattle.sb_calls.specs.declared.call.Call.{Call}
use Rattle.sb_calls.specs.declared.call.TheConstants.{LOG_CALLS}
use Rattle.sb_sequencer.specs.Numbering.{index_of_key}
use Rattle.bank_server.specs.Session.{ToldOutcomesStand, outcome_of}
use Rattle.bank_server.proofs.sessions.Outcomes.{ended_so}
use Rattle.bank_server.proofs.lines.Standings.{place_kept, standing_kept}

-- its key has a number
numbered : (opening : Rows) (log more : List (Key × Call)) (ask : Key × Call) (k : ℕ) → index_of_key log ask.0 ≡ Some k
    → outcome_of opening (log ++ more) ask ≡ outcome_of opening log ask
numbered opening log [] ask k at = ap (λ l. outcome_of opening l ask) (append-nil log)
numbered opening log (entry ∷ more) ask k at =
    ap (λ l. outcome_of opening l ask) (sym (append_assoc log (entry ∷ []) more))
    ∙ numbered opening (log ++ entry ∷ []) more ask k (place_kept log entry ask.0 k at)
    ∙ ended_so opening log entry ask (standing_kept log entry ask k at)

-- the log is full
full : (opening : Rows) (log more : List (Key × Call)) (ask : Key × Call) → length log ≡ LOG_CALLS → length (log ++ more) ≤ LOG_CALLS
    → outcome_of opening (log ++ more) ask ≡ outcome_of opening log ask
full opening log [] ask all limit = ap (λ l. outcome_of opening l ask) (append-nil log)
full opening log (entry ∷ more) ask all limit = absurd (omega (arith, length-append log (entry ∷ more)))

pub told_outcomes_stand : ToldOutcomesStand
told_outcomes_stand opening log more ask valid (inl has) = by (index_of_key log ask.0) refl has
  where
    by : (place : Option ℕ) → index_of_key log ask.0 ≡ place → IsSome place
        → outcome_of opening (log ++ more) ask ≡ outcome_of opening log ask
    by None at has = absurd (true≢false (sym has))
    by (Some k) at has = numbered opening log more ask k at
told_outcomes_stand opening log more ask valid (inr all) = full opening log more ask all valid.limit
