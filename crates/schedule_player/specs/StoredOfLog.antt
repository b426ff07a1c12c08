-- What a replica stores, compared with the whole log run one by one.
use Rattle.std.specs.Prelude.{◌≡◌, ℕ, Option, Some, None, List, [], length}
use Rattle.sb_calls.specs.Cowns.{contents_of}
use Rattle.sb_checkpoint.specs.Checkpoint.{CheckpointOf, Second, SpellsInLayout}
use Rattle.schedule_player.specs.Bank.{BankOf, opening_total}
use Rattle.schedule_player.specs.MachineView.{ops_of}
use Rattle.schedule_player.specs.ReplicaOfLog.{IsCheckpointOfLog}

-- what is stored is this checkpoint, as a mark puts it: in the second layout, with the bank's
-- opening total. If nothing is stored, it is the opening
abbrev pub IsStoredBytes : BankOf → Option (List ℕ) → CheckpointOf → Type 0
IsStoredBytes bank None checkpoint = checkpoint ≡ record { columns = bank.opening; replies = [] }
IsStoredBytes bank (Some bytes) checkpoint = SpellsInLayout Second (opening_total bank) checkpoint bytes
    × (length checkpoint.columns.savings ≡ length bank.names)

-- what is stored, or the opening if nothing is, has what the log up to its length leaves and
-- replies
pub record IsStoredOfLog (bank : BankOf) (slot : Option (List ℕ)) : Type 0 where
  pub checkpoint : CheckpointOf
  pub stored : IsStoredBytes bank slot checkpoint
  pub consistent : IsCheckpointOfLog (contents_of bank.opening) (ops_of bank) checkpoint
