-- Batches of calls that a client asks, and their outcomes.
use Rattle.std.specs.Prelude.{ℕ, ◌+◌, List, [], ◌∷◌, ◌++◌, drop}
use Rattle.std.specs.List.{flat_map}
use Rattle.sb_calls.specs.declared.call.Call.{Call}
use Rattle.sb_frames.specs.Grammar.{spelling}
use Rattle.sb_frames.specs.declared.frame.AskOutcome.{AskOutcome}
use Rattle.sb_frames.specs.declared.frame.Frame.{Frame}
use Rattle.sb_frames.specs.declared.frame.Frame.TheVariants.{Ask, Flush, Outcome}

-- calls without an outcome, and whose they are: the first has this request number, each other the next one
pub record BatchOf : Type 0 where
  pub client : ℕ
  pub first : ℕ
  pub calls : List Call

-- the ask of each call
abbrev pub ask_frames : ℕ → ℕ → List Call → List Frame
ask_frames client first [] = []
ask_frames client first (call ∷ calls) = Ask client first call ∷ ask_frames client (first + 1) calls

-- what is sent of a batch: its asks, and a flush
abbrev pub batch_bytes : BatchOf → List ℕ
batch_bytes batch = flat_map spelling (ask_frames batch.client batch.first batch.calls) ++ spelling Flush

-- the outcome of each request
abbrev pub outcome_frames : ℕ → ℕ → List AskOutcome → List Frame
outcome_frames client first [] = []
outcome_frames client first (outcome ∷ outcomes) =
    Outcome client first outcome ∷ outcome_frames client (first + 1) outcomes

-- what is left of a batch once its first calls have outcomes
abbrev pub after_outcomes : ℕ → BatchOf → BatchOf
after_outcomes n batch = record { client = batch.client; first = batch.first + n; calls = drop n batch.calls }
