-- What was read of a checkpoint's bytes, part by part.
use Rattle.std.specs.Prelude.{◌≡◌, ℕ, ◌≤◌, Some, None, List, length, map}
use Rattle.sb_calls.specs.declared.reply.Reply.{Reply}
use Rattle.sb_rows.specs.Balances.{Balances, IsBalances}
use Rattle.sb_checkpoint.specs.Checkpoint.{Layout}
use Rattle.sb_checkpoint.specs.Reading.{balances_fault, head_fault, replies_fault, stated_checking, stated_customers, stated_layout, stated_replies, stated_reply_count, stated_savings, stated_size}

-- the layout and the number of replies
pub record IsStatedHead (bytes : List ℕ) (wanted : ℕ) (found : Layout) (replies : ℕ) : Type 0 where
  pub layout : stated_layout bytes ≡ Some found
  pub count : replies ≡ stated_reply_count bytes
  pub customers : stated_customers bytes ≡ wanted
  pub room : stated_size found bytes ≤ length bytes
  pub fault : head_fault bytes wanted ≡ None

-- the balances of a bank
pub record AreStatedColumns (bytes : List ℕ) (columns : Balances) : Type 0 where
  pub savings : columns.savings ≡ stated_savings bytes
  pub checking : columns.checking ≡ stated_checking bytes
  pub valid : IsBalances columns
  pub fault : balances_fault bytes ≡ None

-- all replies
pub record AreStatedReplies (bytes : List ℕ) (layout : Layout) (read : List Reply) : Type 0 where
  pub replies : map (λ r. Some r) read ≡ stated_replies layout bytes
  pub fault : replies_fault layout bytes ≡ None
