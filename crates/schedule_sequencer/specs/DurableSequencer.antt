-- A sequencer whose log is in a file that can crash.
use Rattle.std.specs.Prelude.{ℕ, max, None, Result, Ok, Err, List, [], ◌∷◌, ◌++◌, length, replicate, take}
use Rattle.sb_calls.specs.declared.ask.Key.{Key}
use Rattle.sb_calls.specs.declared.call.Call.{Call}
use Rattle.sb_sequencer.specs.Sequencer.{SequencerOf, empty_sequencer, sequencer_with}
use Rattle.sb_sequencer.specs.declared.answer.AskFault.{AskFault}
use Rattle.sb_sequencer.specs.declared.answer.Numbered.{Numbered}
use Rattle.sb_sequencer.specs.declared.answer.Numbered.TheVariants.{New, Repeat}

-- the sequencer with the part of its log that is synced, and the asks that it numbered since then, in
-- order
pub record DurableSequencerOf : Type 0 where
  pub synced : SequencerOf
  pub unsynced : List (Key × Call)

-- its log: what is synced, and then what isn't
abbrev pub whole_log : DurableSequencerOf → List (Key × Call)
whole_log s = s.synced.log ++ s.unsynced

-- for this many replicas, with an empty log
abbrev pub empty_durable : ℕ → DurableSequencerOf
empty_durable nodes = record { synced = empty_sequencer nodes; unsynced = [] }

-- after an append, by its answer: a new ask joins the log, and isn't synced
abbrev pub after_append : DurableSequencerOf → Key × Call → Result Numbered AskFault → DurableSequencerOf
after_append s ask (Ok (New n)) = record s { unsynced = s.unsynced ++ ask ∷ [] }
after_append s ask (Ok (Repeat n)) = s
after_append s ask (Err fault) = s

-- after a sync: the whole log is synced; what is newly synced has no answer yet
abbrev pub after_sync : DurableSequencerOf → DurableSequencerOf
after_sync s = record {
  synced = record s.synced {
    log = whole_log s;
    answers = s.synced.answers ++ replicate (length s.unsynced) None;
  };
  unsynced = [];
}

-- what a crash leaves of the log: the synced calls, and of the others those up to this number
abbrev pub log_after_crash : DurableSequencerOf → ℕ → List (Key × Call)
log_after_crash s kept = take (max (length s.synced.log) kept) (whole_log s)

-- after a crash it has what is left of its log, all of it synced, and nothing that was reported
abbrev pub after_crash : DurableSequencerOf → ℕ → DurableSequencerOf
after_crash s kept = record {
  synced = sequencer_with (length s.synced.recorded) (log_after_crash s kept);
  unsynced = [];
}
