-- A durable sequencer over its file and the sequencer of the whole log.
use Rattle.std.specs.Prelude.{◌≡◌, ℕ, ◌≤◌, length, take, drop}
use Rattle.sb_sequencer.specs.Sequencer.{SequencerOf, IsSequencer}
use Rattle.sb_calls.specs.declared.nodes.TheConstants.{REPLICAS}
use Rattle.sb_ask_log.specs.MemoryLog.{MemoryLogOf, HasAsks}
use Rattle.schedule_sequencer.specs.DurableSequencer.{DurableSequencerOf, after_sync}

-- a sequencer's log, cut at this length: up to there it is synced
abbrev pub cut_at : ℕ → SequencerOf → DurableSequencerOf
cut_at size s = record {
  synced = record s { log = take size s.log; answers = take size s.answers };
  unsynced = drop size s.log;
}

-- the file has the whole log; what isn't synced has no answer, and no replica and no checkpoint is
-- beyond what is
pub record IsDurableSequencer (log : MemoryLogOf) (s : SequencerOf) (nodes : ℕ) : Type 0 where
  pub file : HasAsks log s.log
  pub synced : IsSequencer (cut_at log.synced s).synced
  pub whole : (after_sync (cut_at log.synced s)).synced ≡ s
  pub nodes_are : nodes ≡ length s.recorded
  pub few : nodes ≤ REPLICAS
