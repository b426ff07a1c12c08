-- What a client prints of the outcomes of its asks.
use Rattle.std.specs.Prelude.{ℕ, ◌+◌, List, [], ◌∷◌, ◌++◌, codes, decimal}
use Rattle.sb_calls.specs.ReplyText.{reply_text}
use Rattle.sb_frames.specs.declared.frame.AskOutcome.{AskOutcome}
use Rattle.sb_frames.specs.declared.frame.AskOutcome.TheVariants.{Replied, Mismatch, LogFull}

-- the words of an outcome: those of its reply, `mismatch`, or `log full`
abbrev pub outcome_text : AskOutcome → List ℕ
outcome_text (Replied reply) = reply_text reply
outcome_text Mismatch = codes "mismatch"
outcome_text LogFull = codes "log full"

-- a request's number, and the words of its outcome
abbrev pub outcome_line : ℕ → AskOutcome → List ℕ
outcome_line request outcome = decimal request ++ (32 ∷ outcome_text outcome)

-- a line for each outcome: the first is of the request with this number, each other of the next one
abbrev pub outcome_lines : ℕ → List AskOutcome → List (List ℕ)
outcome_lines first [] = []
outcome_lines first (outcome ∷ outcomes) = outcome_line first outcome ∷ outcome_lines (first + 1) outcomes
