-- A board as its callers see it.
use Rattle.std.specs.Prelude.{◌≡◌, ◌≢◌, ℕ, suc, ◌+◌, ◌-◌, ℤ, ◌==◌, nat_le, if◌then◌else◌, Option, Some, None, List, length, count_by, take, option_and_then, slice_get, slice_set}
use Rattle.sb_rows.specs.Balances.{Balances}
use Rattle.sb_calls.specs.Cowns.{contents_of}
use Rattle.sb_calls.specs.SerialRun.{inputs_of, contents_after, contents_after_first, reply_by_log}
use Rattle.sb_calls.specs.declared.reply.Reply.{Reply}
use Rattle.cown_board.specs.Job.{JobOf, DoneOf}
use Rattle.cown_board.specs.Readiness.{ready_positions}
use Rattle.cown_board.specs.State.{is_unfinished, finished_reply}
use Rattle.cown_board.specs.declared.state.State.{State}
use Rattle.cown_board.specs.declared.state.State.TheVariants.{Out, Finished}

-- a board: the columns at the opening; the replies to the numbers before it; the behaviours
-- submitted since, and the state of each; the length of its cut, if it has one
pub record BoardOf (B : Type 0) : Type 0 where
  pub opening : Balances
  pub base_replies : List Reply
  pub log : List B
  pub states : List State
  pub cut : Option ℕ

-- the length of a board: its greatest number so far
abbrev pub length_of : {B : Type 0} → BoardOf B → ℕ
length_of board = length board.base_replies + length board.log

-- the number at a position of the log
abbrev pub behaviour_number : {B : Type 0} → BoardOf B → ℕ → ℕ
behaviour_number board position = suc (length board.base_replies + position)

-- the number of unfinished behaviours
abbrev pub unfinished_of : {B : Type 0} → BoardOf B → ℕ
unfinished_of board = count_by is_unfinished board.states

-- the number of unfinished behaviours up to a number; numbers before the board's are finished
abbrev pub unfinished_up_to : {B : Type 0} → BoardOf B → ℕ → ℕ
unfinished_up_to board number = count_by is_unfinished (take (number - length board.base_replies) board.states)

-- the reply to a number: one handed in at the opening, or that of a finished behaviour
unfoldable pub reply_in : {B : Type 0} → BoardOf B → ℕ → Option Reply
reply_in board number =
    if number == 0 then None
    else if nat_le number (length board.base_replies) then slice_get board.base_replies (number - 1)
    else option_and_then finished_reply (slice_get board.states (number - 1 - length board.base_replies))

module _ {B : Type 0} (touches : B → List ℕ) (effect : B → List ℤ → Reply × List ℤ) where
  -- the inputs of the behaviour at a position: what its cowns contain after the behaviours before
  -- it
  abbrev pub inputs_at : BoardOf B → ℕ → B → List ℤ
  inputs_at board position behaviour =
      inputs_of touches effect
      (contents_after_first touches effect (contents_of board.opening) board.log position) behaviour

  -- the result is that of the behaviour at a position, which is out, on its inputs
  pub record IsOutAt (board : BoardOf B) (done : DoneOf B) (position : ℕ) : Type 0 where
    pub number : done.number ≡ behaviour_number board position
    pub out : slice_get board.states position ≡ Some Out
    pub behaviour : slice_get board.log position ≡ Some done.behaviour
    pub inputs : done.inputs ≡ inputs_at board position done.behaviour

  -- the result is that of some behaviour that is out, on the inputs that it was handed out with
  abbrev pub IsOutHere : BoardOf B → DoneOf B → Type 0
  IsOutHere board done = (position : ℕ) × IsOutAt board done position

  -- the ready behaviour at an index is handed out, with what its cowns contain, and is out from
  -- then on
  pub record Takes (old : BoardOf B) (index : ℕ) (job : JobOf B) (new : BoardOf B) : Type 0 where
    pub position : ℕ
    pub ready : slice_get (ready_positions touches old.log old.states) index ≡ Some position
    pub number : job.number ≡ behaviour_number old position
    pub behaviour : slice_get old.log position ≡ Some job.behaviour
    pub inputs : job.inputs ≡ inputs_at old position job.behaviour
    pub out : new ≡ record old { states = slice_set old.states position Out }

  -- the behaviour is finished, with the reply that its number gets when the log runs one by one
  pub record Finishes (old : BoardOf B) (done : DoneOf B) (reply : Reply) (new : BoardOf B) : Type 0 where
    pub position : ℕ
    pub here : IsOutAt old done position
    pub by_log : reply_by_log touches effect (contents_of old.opening) old.log (suc position) ≡ Some reply
    pub finished : new ≡ record old { states = slice_set old.states position (Finished reply) }

  -- the columns are what the whole log leaves
  abbrev pub IsAfterAll : BoardOf B → Balances → Type 0
  IsAfterAll board columns = contents_of columns ≡ contents_after touches effect (contents_of board.opening) board.log

  -- the columns are what the log leaves up to a number
  abbrev pub IsAfterFirst : BoardOf B → ℕ → Balances → Type 0
  IsAfterFirst board number columns =
      let position = number - length board.base_replies in
      contents_of columns ≡ contents_after_first touches effect (contents_of board.opening) board.log position

  -- the columns of a cut: everything up to its length is finished, and the columns are what that
  -- leaves; without columns there is no cut, or something up to its length is unfinished
  abbrev pub AreCutColumns : BoardOf B → Option Balances → Type 0
  AreCutColumns board (Some columns) =
      (number : ℕ) × (board.cut ≡ Some number) × (unfinished_up_to board number ≡ 0) × IsAfterFirst board number columns
  AreCutColumns board None = (number : ℕ) → board.cut ≡ Some number → unfinished_up_to board number ≢ 0
