-- How large checkpoints are, and how many replies are read from one.
use Rattle.std.proofs.Common.{◌≡◌, ℕ, ◌+◌, ◌*◌, ℤ, List, length, ap, ap₂, ◌∙◌}
use Rattle.sb_rows.specs.Balances.{Balances}
use Rattle.lane_audit.specs.Audit.{balances_total}
use Rattle.sb_calls.specs.declared.call.TheConstants.{LOG_CALLS}
use Rattle.sb_calls.specs.declared.reply.Reply.{Reply}
use Rattle.sb_checkpoint.specs.Checkpoint.{CheckpointOf, SpellsCheckpoint, Second, SpellsInLayout}
use Rattle.sb_checkpoint.proofs.SpellingIsRead.{one_checkpoint, read_back}
use Rattle.store_timing.specs.inner.FullCheckpoints.{SpellsFull}
use Rattle.store_timing.specs.Checkpoints.{size_of}

pub size_is : (opening_total : ℤ) (columns : Balances) (replies : List Reply) (bytes : List ℕ)
    → SpellsInLayout Second opening_total (record { columns = columns; replies = replies }) bytes
    → length bytes ≡ size_of (length columns.savings) (length replies)
size_is opening_total columns replies bytes is =
    let back = read_back Second opening_total (record { columns = columns; replies = replies }) bytes is in
    back.size ∙ ap₂ (λ j k. 36 + 16 * j + 9 * k) back.many back.count

pub is_full : (opening_total : ℤ) (columns : Balances) (replies : List Reply) (bytes : List ℕ)
    → SpellsInLayout Second opening_total (record { columns = columns; replies = replies }) bytes
    → opening_total ≡ balances_total columns → length replies ≡ LOG_CALLS → SpellsFull opening_total bytes
is_full opening_total columns replies bytes is opening full =
    record { checkpoint = record { columns = columns; replies = replies }; spelled = is; opening = opening; full = full }

pub full_is_read : (opening_total told : ℤ) (bytes : List ℕ) (read : CheckpointOf) → SpellsFull opening_total bytes → SpellsCheckpoint told read bytes
    → length read.replies ≡ LOG_CALLS
full_is_read opening_total told bytes read made is =
    let one = one_checkpoint is.0 Second told opening_total read made.checkpoint bytes is.1 made.spelled in
    ap (λ (checkpoint : CheckpointOf). length checkpoint.replies) one.1 ∙ made.full
