-- A sequencer: its log, and what the replicas reported.
use Rattle.std.specs.Prelude.{◌≡◌, ℕ, ◌≤◌, Option, None, List, [], ◌∷◌, ◌++◌, length, replicate, Result, Ok, Err}
use Rattle.std.specs.List.{All}
use Rattle.sb_calls.specs.declared.ask.Key.{Key}
use Rattle.sb_calls.specs.declared.call.Call.{Call}
use Rattle.sb_calls.specs.declared.reply.Reply.{Reply}
use Rattle.sb_sequencer.specs.Numbering.{IsLog}
use Rattle.sb_sequencer.specs.declared.answer.AskFault.{AskFault}
use Rattle.sb_sequencer.specs.declared.answer.Numbered.{Numbered}
use Rattle.sb_sequencer.specs.declared.answer.Numbered.TheVariants.{New, Repeat}

-- a sequencer: the log, the lengths last received of each replica and of its checkpoint, and the
-- answer kept for each number, if any
pub record SequencerOf : Type 0 where
  pub log : List (Key × Call)
  pub recorded : List ℕ
  pub checkpoints : List ℕ
  pub answers : List (Option Reply)

-- a sequencer for this many replicas, with this log, to which nothing was reported
abbrev pub sequencer_with : ℕ → List (Key × Call) → SequencerOf
sequencer_with nodes log = record {
  log = log;
  recorded = replicate nodes 0;
  checkpoints = replicate nodes 0;
  answers = replicate (length log) None;
}

-- a sequencer for this many replicas, with an empty log
abbrev pub empty_sequencer : ℕ → SequencerOf
empty_sequencer nodes = record {
  log = [];
  recorded = replicate nodes 0;
  checkpoints = replicate nodes 0;
  answers = [];
}

-- a sequencer is valid: it has one slot for an answer for each call, and one checkpoint length for
-- each replica; no replica and no checkpoint is beyond the log
pub record IsSequencer (s : SequencerOf) : Type 0 where
  pub log : IsLog s.log
  pub answers : length s.answers ≡ length s.log
  pub recorded : All (λ size. size ≤ length s.log) s.recorded
  pub same_length : length s.checkpoints ≡ length s.recorded
  pub checkpoints : All (λ size. size ≤ length s.log) s.checkpoints

-- the sequencer after an ask: only a new number changes it; then the ask is appended, and no answer
-- is kept for it yet
abbrev pub state_after_ask : SequencerOf → Key × Call → Result Numbered AskFault → SequencerOf
state_after_ask s ask (Ok (New n)) = record s { log = s.log ++ ask ∷ []; answers = s.answers ++ None ∷ [] }
state_after_ask s ask (Ok (Repeat n)) = s
state_after_ask s ask (Err fault) = s
