-- Asks, as they are counted.
use Rattle.std.specs.Prelude.{◌≡◌, ℕ, ◌+◌, ◌<◌, ◌^◌, ◌==◌, if◌then◌else◌, Result, Ok, Err}
use Rattle.sb_checkpoint.specs.Stores.{saturating_increment}
use Rattle.sb_sequencer.specs.declared.answer.AskFault.{AskFault}
use Rattle.sb_sequencer.specs.declared.answer.AskFault.TheVariants as faults
use Rattle.sb_sequencer.specs.declared.answer.Numbered.{Numbered}
use Rattle.sb_sequencer.specs.declared.answer.Numbered.TheVariants.{New, Repeat}
use Rattle.bank_server.specs.declared.input.asking.Standing.{Standing}
use Rattle.bank_server.specs.declared.input.asking.Standing.TheVariants.{Number, Mismatch, LogFull}
use Rattle.bank_server.specs.declared.node0.ask_counts.AskCounts.{AskCounts}

-- one ask more, with this answer: one that was refused memory isn't counted
abbrev pub counts_with : AskCounts → Result Numbered AskFault → AskCounts
counts_with counts (Ok (New n)) = record counts { entries = saturating_increment counts.entries }
counts_with counts (Ok (Repeat n)) = record counts { repeats = saturating_increment counts.repeats }
counts_with counts (Err (faults.Mismatch n)) = record counts { refusals = saturating_increment counts.refusals }
counts_with counts (Err faults.LogFull) = record counts { refusals = saturating_increment counts.refusals }
counts_with counts (Err faults.OutOfMemory) = counts

-- one ask more, with this standing, where the log had this length: only the next number is a new entry
abbrev pub counts_by : ℕ → Standing → AskCounts → AskCounts
counts_by before (Number n) counts = if n == before + 1
    then record counts { entries = saturating_increment counts.entries }
    else record counts { repeats = saturating_increment counts.repeats }
counts_by before (Mismatch n) counts = record counts { refusals = saturating_increment counts.refusals }
counts_by before LogFull counts = record counts { refusals = saturating_increment counts.refusals }

-- a count after more were added to it, which stops at what 64 bits hold
abbrev pub IsSum : ℕ → ℕ → ℕ → Type 0
IsSum count more sum = count + more < 2 ^ 64 → sum ≡ count + more

-- counts after more were added to them
pub record AddsCounts (counts more sum : AskCounts) : Type 0 where
  pub entries : IsSum counts.entries more.entries sum.entries
  pub repeats : IsSum counts.repeats more.repeats sum.repeats
  pub refusals : IsSum counts.refusals more.refusals sum.refusals
