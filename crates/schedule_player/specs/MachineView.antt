-- What the machine sees of what the code holds.
use Rattle.std.specs.Prelude.{ℕ, Option, Some, None, List, ◌++◌, length, map, replicate}
use Rattle.sb_calls.specs.Op.{op_of}
use Rattle.sb_calls.specs.declared.op.Op.{Op}
use Rattle.cown_board.specs.Board.{BoardOf}
use Rattle.cown_board.specs.declared.state.State.{State}
use Rattle.cown_board.specs.declared.state.State.TheVariants.{Waiting, Out, Finished}
use Rattle.sb_checkpoint.specs.Reading.{stated_reply_count}
use Rattle.schedule_player.specs.Bank.{BankOf}
use Rattle.schedule_player.specs.Stage.{Stage, Waits, IsOut, IsDone}

-- ---- the stages of a board's entries

abbrev pub stage_of : State → Stage
stage_of Waiting = Waits
stage_of Out = IsOut
stage_of (Finished reply) = IsDone

-- entries before the board's opening are done; the others are in the board's states
abbrev pub stages_of : BoardOf Op → List Stage
stages_of board = replicate (length board.base_replies) IsDone ++ map stage_of board.states

-- ---- what is stored

-- the length that the stored bytes state, 0 if there are none
abbrev pub slot_length : Option (List ℕ) → ℕ
slot_length None = 0
slot_length (Some bytes) = stated_reply_count bytes

-- ---- the log by cowns

-- the calls, with places for names
abbrev pub ops_of : BankOf → List Op
ops_of bank = map (op_of bank.names) bank.calls
