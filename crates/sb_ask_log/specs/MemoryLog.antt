-- A log of asks in a file in memory.
use Rattle.std.specs.Prelude.{◌≡◌, ◌≤◌, ℕ, List, [], ◌∷◌, codes, length, map, take}
use Rattle.std.specs.List.{All}
use Rattle.sha2.specs.declared.Sha256.{Sha256}
use Rattle.sha2.specs.Hashers.{Holds256}
use Rattle.sb_calls.specs.declared.ask.Key.{Key}
use Rattle.sb_calls.specs.declared.call.Call.{Call}
use Rattle.sb_log.specs.MemoryFile.{MemoryFileOf}
use Rattle.sb_log.specs.Records.{records}
use Rattle.sb_sequencer.specs.Numbering.{IsLog}
use Rattle.sb_ask_log.specs.Asks.{IsAsk}
use Rattle.sb_ask_log.specs.LogFile.{bodies_of, log_bytes}

-- a log of asks in a file in memory: the file, the hasher of its bodies, and how many asks are synced
pub record MemoryLogOf : Type 0 where
  pub file : MemoryFileOf
  pub hasher : Sha256
  pub synced : ℕ

-- the opening of a bank without customers: whoever has such a log keeps its bank's opening itself
abbrev pub no_customers : List ℕ
no_customers = codes "begin\n"

-- the file's bytes, with each ask in a record of its own
abbrev pub bytes_of_asks : List (Key × Call) → List ℕ
bytes_of_asks asks = records (bodies_of no_customers (map (λ ask. ask ∷ []) asks))

-- it has these asks, each in a record of its own; of its bytes those of the synced asks are synced
pub record HasAsks (log : MemoryLogOf) (asks : List (Key × Call)) : Type 0 where
  pub one_each : IsLog asks
  pub valid : All IsAsk asks
  pub content : log.file.content ≡ bytes_of_asks asks
  pub few : log.synced ≤ length asks
  pub synced : log.file.synced ≡ length (bytes_of_asks (take log.synced asks))
  pub holds : Holds256 log.hasher (log_bytes no_customers asks)
