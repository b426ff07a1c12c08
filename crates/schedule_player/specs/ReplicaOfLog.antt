-- What a replica holds, compared with the whole log run one by one.
use Rattle.std.specs.Prelude.{◌≡◌, ℕ, suc, ◌+◌, ◌≤◌, ℤ, Option, Some, List, ◌++◌, length, slice_get}
use Rattle.sb_calls.specs.Behaviour.{declared_cowns, effect_of}
use Rattle.sb_calls.specs.Cowns.{contents_of}
use Rattle.sb_calls.specs.SerialRun.{contents_after, contents_after_first, reply_by_log}
use Rattle.sb_calls.specs.declared.op.Op.{Op}
use Rattle.sb_calls.specs.declared.reply.Reply.{Reply}
use Rattle.sb_checkpoint.specs.Checkpoint.{CheckpointOf}
use Rattle.cown_board.specs.Board.{BoardOf, length_of}
use Rattle.cown_board.specs.declared.state.State.TheVariants.{Finished}

-- given what the cowns contained at the opening, and all ops of the log
module _ (opening : List ℤ) (log : List Op) where
  -- these are the log's replies to the numbers from 1 on
  abbrev pub AreReplies : List Reply → Type 0
  AreReplies replies = (k : ℕ) (reply : Reply) → slice_get replies k ≡ Some reply
      → reply_by_log declared_cowns effect_of opening log (suc k) ≡ Some reply

  -- the board's log is a part of the whole log; the board was opened on what the log before this
  -- part leaves, and its cut is within its own numbers
  pub record IsBoardOfLog (board : BoardOf Op) : Type 0 where
    pub before : List Op
    pub later : List Op
    pub log_is : log ≡ before ++ (board.log ++ later)
    pub base : length before ≡ length board.base_replies
    pub opening_is : contents_of board.opening ≡ contents_after declared_cowns effect_of opening before
    pub base_replies : AreReplies board.base_replies
    pub states : length board.log ≡ length board.states
    pub finished : (k : ℕ) (reply : Reply) → slice_get board.states k ≡ Some (Finished reply)
        → reply_by_log declared_cowns effect_of opening log (suc (length before + k)) ≡ Some reply
    pub cut : (number : ℕ) → board.cut ≡ Some number
        → (length board.base_replies ≤ number) × (number ≤ length_of board)

  -- the checkpoint has what the log up to its length leaves and replies
  pub record IsCheckpointOfLog (checkpoint : CheckpointOf) : Type 0 where
    pub within : length checkpoint.replies ≤ length log
    pub columns : contents_of checkpoint.columns
        ≡ contents_after_first declared_cowns effect_of opening log (length checkpoint.replies)
    pub replies : AreReplies checkpoint.replies

-- each op held for a later number is the log's op of that number; the first of the list is for the
-- next number after these entries
abbrev pub AreHeldOfLog : List Op → ℕ → List (Option Op) → Type 0
AreHeldOfLog log size held =
    (k : ℕ) (op : Op) → slice_get held k ≡ Some (Some op) → slice_get log (size + k) ≡ Some op
