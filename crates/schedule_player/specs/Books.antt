-- Columns of a bank at a length of its log, and a checkpoint of it.
use Rattle.std.specs.Prelude.{◌≡◌, ℕ, suc, Some, List, length, slice_get}
use Rattle.sb_rows.specs.Balances.{Balances}
use Rattle.sb_rows.specs.Rows.{SameCustomers, rows_of}
use Rattle.sb_calls.specs.declared.reply.Reply.{Reply}
use Rattle.sb_checkpoint.specs.Checkpoint.{CheckpointOf, Second, SpellsInLayout}
use Rattle.schedule_player.specs.Bank.{BankOf, log_reply, log_rows, opening_total}

-- the columns are of the bank's customers, and their rows are those after this many calls
pub record IsRowsAt (bank : BankOf) (size : ℕ) (columns : Balances) : Type 0 where
  pub customers : SameCustomers bank.names columns
  pub rows : rows_of bank.names columns ≡ log_rows bank size

-- the bytes are the bank's checkpoint after this many calls, in the second layout: its rows, its
-- opening total, and the replies to the numbers up to there
pub record IsStateAt (bank : BankOf) (size : ℕ) (bytes : List ℕ) : Type 0 where
  pub checkpoint : CheckpointOf
  pub spelled : SpellsInLayout Second (opening_total bank) checkpoint bytes
  pub size_is : length checkpoint.replies ≡ size
  pub rows : IsRowsAt bank size checkpoint.columns
  pub replies : (k : ℕ) (reply : Reply) → slice_get checkpoint.replies k ≡ Some reply
      → log_reply bank (suc k) ≡ Some reply
