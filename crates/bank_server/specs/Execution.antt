-- What executing the log on a board keeps.
use Rattle.std.specs.Prelude.{◌≡◌, ℕ, suc, ◌<◌, List, [], length, slice_get}
use Rattle.sb_calls.specs.Behaviour.{declared_cowns, effect_of}
use Rattle.sb_rows.specs.Balances.{Balances, IsBalances}
use Rattle.sb_rows.specs.Rows.{SameCustomers, rows_of}
use Rattle.sb_calls.specs.Cowns.{contents_of}
use Rattle.sb_calls.specs.Log.{rows_after, replies_to}
use Rattle.sb_calls.specs.SerialRun.{reply_by_log}
use Rattle.sb_calls.specs.declared.call.Call.{Call}
use Rattle.sb_calls.specs.declared.op.Op.{Op}
use Rattle.sb_calls.specs.declared.reply.Reply.{Reply}
use Rattle.cown_board.specs.Board.{BoardOf, unfinished_of, IsAfterAll}

-- the board has no entries, and none came before it
pub record HasNoEntries (board : BoardOf Op) : Type 0 where
  pub base_replies : board.base_replies ≡ []
  pub log : board.log ≡ []
  pub states : board.states ≡ []

-- these ops are the board's whole log, and all are finished
pub record IsWholeLog (ops : List Op) (board : BoardOf Op) : Type 0 where
  pub idle : unfinished_of board ≡ 0
  pub base_replies : board.base_replies ≡ []
  pub log : board.log ≡ ops

-- an idle board that nothing came before, and the reply to each op of its log: that of the log run
-- one by one
pub record HasReplies (board : BoardOf Op) (replies : List Reply) : Type 0 where
  pub idle : unfinished_of board ≡ 0
  pub base_replies : board.base_replies ≡ []
  pub all : length replies ≡ length board.log
  pub each : (k : ℕ) → k < length board.log
      → slice_get replies k ≡ reply_by_log declared_cowns effect_of (contents_of board.opening) board.log (suc k)

-- the replies on the board are those of the calls run one by one, and columns that hold what its
-- log leaves are the rows after these calls
pub record IsOneByOne (directory : List (List ℕ)) (calls : List Call) (before : Balances) (board : BoardOf Op)
    : Type 0 where
  pub replies : HasReplies board (replies_to (rows_of directory before) calls)
  pub rows : (after : Balances) → IsBalances after → IsAfterAll declared_cowns effect_of board after
      → SameCustomers directory after × (rows_of directory after ≡ rows_after calls (rows_of directory before))
