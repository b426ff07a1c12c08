-- What a checkpoint is, and how its bytes spell it.
use Rattle.std.specs.Prelude.{◌≡◌, ℕ, ◌≤◌, ℤ, List, [], ◌∷◌, ◌++◌, length}
use Rattle.std.specs.Int.{w32, w64}
use Rattle.std.specs.List.{All, flat_map}
use Rattle.sb_rows.specs.Balances.{Balances, IsBalances}
use Rattle.sb_calls.specs.Replies.{IsReply, integer_field, amount_field, reply_field}
use Rattle.sb_calls.specs.declared.call.TheConstants.{LOG_CALLS}
use Rattle.sb_calls.specs.declared.reply.Reply.{Reply}
use Rattle.lane_audit.specs.Audit.{balances_total}

-- a checkpoint, the state of an idle replica: the balances, and the replies to the numbers from 1
-- on
pub record CheckpointOf : Type 0 where
  pub columns : Balances
  pub replies : List Reply

-- a checkpoint is valid: its balances are a bank's, and it has at most as many replies as a log has
-- calls, each with a spelling
pub record IsCheckpoint (checkpoint : CheckpointOf) : Type 0 where
  pub balances : IsBalances checkpoint.columns
  pub limit : length checkpoint.replies ≤ LOG_CALLS
  pub replies : All IsReply checkpoint.replies

-- what identifies the bank of a checkpoint: the number of customers, and their total at the opening
pub record Origin : Type 0 where
  pub customers : ℕ
  pub opening_total : ℤ

-- the layouts of checkpoints: the first is only read, the second also keeps the opening total
pub data Layout : Type 0 where
  First : Layout
  Second : Layout

-- `SBCKPT01` and `SBCKPT02`
abbrev pub magic : Layout → List ℕ
magic First = 83 ∷ 66 ∷ 67 ∷ 75 ∷ 80 ∷ 84 ∷ 48 ∷ 49 ∷ []
magic Second = 83 ∷ 66 ∷ 67 ∷ 75 ∷ 80 ∷ 84 ∷ 48 ∷ 50 ∷ []

-- the opening total, in the second layout
abbrev pub opening_field : Layout → ℤ → List ℕ
opening_field First opening_total = []
opening_field Second opening_total = amount_field opening_total

-- the bytes of a checkpoint: the magic, the length, the number of customers, all savings, all
-- checking balances, their total, the opening total if the layout has it, and the replies
unfoldable pub checkpoint_spelling : Layout → ℤ → CheckpointOf → List ℕ
checkpoint_spelling layout opening_total checkpoint =
    let columns = checkpoint.columns in
    magic layout ++ integer_field w64 (length checkpoint.replies) ++ integer_field w32 (length columns.savings)
    ++ flat_map amount_field columns.savings ++ flat_map amount_field columns.checking
    ++ amount_field (balances_total columns) ++ opening_field layout opening_total
    ++ flat_map reply_field checkpoint.replies

-- the bytes spell a valid checkpoint in this layout, of a bank with this opening total
pub record SpellsInLayout (layout : Layout) (opening_total : ℤ)
    (checkpoint : CheckpointOf) (bytes : List ℕ) : Type 0 where
  pub valid : IsCheckpoint checkpoint
  pub spelled : bytes ≡ checkpoint_spelling layout opening_total checkpoint

-- the bytes spell a checkpoint in one of the two layouts
abbrev pub SpellsCheckpoint : ℤ → CheckpointOf → List ℕ → Type 0
SpellsCheckpoint opening_total checkpoint bytes = (layout : Layout)
    × SpellsInLayout layout opening_total checkpoint bytes

-- the bytes spell a checkpoint of a bank of this origin, in one of the layouts
abbrev pub SpellsFor : Origin → CheckpointOf → List ℕ → Type 0
SpellsFor origin checkpoint bytes = SpellsCheckpoint origin.opening_total checkpoint bytes
    × (length checkpoint.columns.savings ≡ origin.customers)

-- bytes spell at most one checkpoint, in one layout
abbrev pub OneCheckpoint : Type 0
OneCheckpoint = (k l : Layout) (t u : ℤ) (a b : CheckpointOf) (bytes : List ℕ)
    → SpellsInLayout k t a bytes → SpellsInLayout l u b bytes
    → (k ≡ l) × (a ≡ b)
