-- What each call of a board does, by its answer, and what holds after a list of calls.
use Rattle.std.specs.Prelude.{◌≡◌, ◌≢◌, ◌⊎◌, ℕ, suc, ◌<◌, ◌≤◌, ℤ, true, false, Option, Some, None, Result, Ok, Err, List, [], ◌∷◌, ◌++◌, length, slice_get}
use Rattle.sb_rows.specs.Balances.{Balances}
use Rattle.sb_calls.specs.Cowns.{contents_of}
use Rattle.sb_calls.specs.SerialRun.{reply_by_log}
use Rattle.sb_calls.specs.declared.call.TheConstants.{LOG_CALLS}
use Rattle.sb_calls.specs.declared.reply.Reply.{Reply}
use Rattle.cown_board.specs.Board.{BoardOf, length_of, unfinished_of, Takes, Finishes, IsOutHere}
use Rattle.cown_board.specs.State.{unfinished_at}
use Rattle.cown_board.specs.Job.{JobOf, DoneOf}
use Rattle.cown_board.specs.Readiness.{is_ready_at, ready_positions}
use Rattle.cown_board.specs.declared.board.SubmitFault.{SubmitFault}
use Rattle.cown_board.specs.declared.board.SubmitFault.TheVariants.{Busy, LogFull, OutOfMemory}
use Rattle.cown_board.specs.declared.board.TheConstants.{OPEN_BEHAVIOURS}
use Rattle.cown_board.specs.declared.cut.CutFault.{CutFault}
use Rattle.cown_board.specs.declared.cut.CutFault.TheVariants.{Pending, OutOfMemory as NoMemory}
use Rattle.cown_board.specs.declared.state.State.TheVariants.{Waiting, Out, Finished}

-- ---- one call

-- a submission: the behaviour is appended to the log under the next number, unless too much is
-- unfinished, or else the log is full, or else memory was refused; then nothing changes
abbrev pub Submits : {B : Type 0} → BoardOf B → B → Result ℕ SubmitFault → BoardOf B → Type 0
Submits old behaviour (Ok number) new =
    (unfinished_of old ≢ OPEN_BEHAVIOURS) × (length_of old ≢ LOG_CALLS) × (number ≡ suc (length_of old))
    × (new ≡ record old { log = old.log ++ behaviour ∷ []; states = old.states ++ Waiting ∷ [] })
Submits old behaviour (Err Busy) new = (unfinished_of old ≡ OPEN_BEHAVIOURS) × (new ≡ old)
Submits old behaviour (Err LogFull) new =
    (unfinished_of old ≢ OPEN_BEHAVIOURS) × (length_of old ≡ LOG_CALLS) × (new ≡ old)
Submits old behaviour (Err OutOfMemory) new =
    (unfinished_of old ≢ OPEN_BEHAVIOURS) × (length_of old ≢ LOG_CALLS) × (new ≡ old)

-- a cut: it is made at the board's length, unless there is one already, or else memory was refused;
-- then nothing changes
abbrev pub MakesCut : {B : Type 0} → BoardOf B → Result ℕ CutFault → BoardOf B → Type 0
MakesCut old (Ok number) new =
    (old.cut ≡ None) × (number ≡ length_of old) × (new ≡ record old { cut = Some (length_of old) })
MakesCut old (Err (Pending number)) new = (old.cut ≡ Some number) × (new ≡ old)
MakesCut old (Err NoMemory) new = (old.cut ≡ None) × (new ≡ old)

module _ {B : Type 0} (touches : B → List ℕ) (effect : B → List ℤ → Reply × List ℤ) where
  -- the ready behaviour at an index is handed out, or nothing changes if there is none
  abbrev pub HandsOut : BoardOf B → ℕ → Option (JobOf B) → BoardOf B → Type 0
  HandsOut old index None new = (length (ready_positions touches old.log old.states) ≤ index) × (new ≡ old)
  HandsOut old index (Some job) new = Takes touches effect old index job new

  -- the result of a behaviour that is out is taken back, and its reply is answered; any other result
  -- comes back, and nothing changes
  abbrev pub TakesBack : BoardOf B → DoneOf B → Result Reply (DoneOf B) → BoardOf B → Type 0
  TakesBack old done (Ok reply) new = Finishes touches effect old done reply new
  TakesBack old done (Err back) new = (¬ IsOutHere touches effect old done) × (back ≡ done) × (new ≡ old)

-- ---- lists of calls

-- a call of a board, with its answer
pub data BoardCall (B : Type 0) : Type 0 where
  Submitted : (behaviour : B) (answer : Result ℕ SubmitFault) → BoardCall B
  TakenAt : (index : ℕ) (answer : Option (JobOf B)) → BoardCall B
  Returned : (done : DoneOf B) (answer : Result Reply (DoneOf B)) → BoardCall B
  CutMade : (answer : Result ℕ CutFault) → BoardCall B
  CutDropped : BoardCall B

-- the behaviours that a call appends to the log
abbrev pub submitted_by : {B : Type 0} → BoardCall B → List B
submitted_by (Submitted behaviour (Ok number)) = behaviour ∷ []
submitted_by (Submitted behaviour (Err fault)) = []
submitted_by (TakenAt index answer) = []
submitted_by (Returned done answer) = []
submitted_by (CutMade answer) = []
submitted_by CutDropped = []

abbrev pub submitted_by_all : {B : Type 0} → List (BoardCall B) → List B
submitted_by_all [] = []
submitted_by_all (call ∷ calls) = submitted_by call ++ submitted_by_all calls

-- a board with an empty log and no cut
abbrev pub board_at_opening : {B : Type 0} → Balances → List Reply → BoardOf B
board_at_opening columns base_replies =
    record { opening = columns; base_replies = base_replies; log = []; states = []; cut = None }

module _ {B : Type 0} (touches : B → List ℕ) (effect : B → List ℤ → Reply × List ℤ) where
  -- the effect of one call, as its contract says
  abbrev pub HasCallEffect : BoardOf B → BoardCall B → BoardOf B → Type 0
  HasCallEffect old (Submitted behaviour answer) new = Submits old behaviour answer new
  HasCallEffect old (TakenAt index answer) new = HandsOut touches effect old index answer new
  HasCallEffect old (Returned done answer) new = TakesBack touches effect old done answer new
  HasCallEffect old (CutMade answer) new = MakesCut old answer new
  HasCallEffect old CutDropped new = new ≡ record old { cut = None }

  -- the effect of these calls, one after another
  abbrev pub Plays : BoardOf B → List (BoardCall B) → BoardOf B → Type 0
  Plays old [] new = new ≡ old
  Plays old (call ∷ calls) new = (mid : BoardOf B) × HasCallEffect old call mid × Plays mid calls new

  -- what holds of a board after these calls, if it was opened with these columns and replies
  pub record IsTrueToLog (columns : Balances) (base_replies : List Reply) (calls : List (BoardCall B))
      (board : BoardOf B) : Type 0 where
    pub opening : board.opening ≡ columns
    pub before : board.base_replies ≡ base_replies
    pub log : board.log ≡ submitted_by_all calls
    -- each finished behaviour has its reply from the log run one by one
    pub replies : (k : ℕ) (reply : Reply) → slice_get board.states k ≡ Some (Finished reply)
        → reply_by_log touches effect (contents_of columns) board.log (suc k) ≡ Some reply
    -- the first unfinished behaviour is ready or out
    pub least : (k : ℕ) → unfinished_at board.states k ≡ true → ((j : ℕ) → j < k → unfinished_at board.states j ≡ false)
        → (is_ready_at touches board.log board.states k ≡ true) ⊎ (slice_get board.states k ≡ Some Out)
    -- the length of a cut is between the number of base replies and the board's length
    pub cut : (number : ℕ) → board.cut ≡ Some number → (length base_replies ≤ number) × (number ≤ length_of board)

  -- the board is true to its log, whatever was submitted, taken, given back and cut, in whatever
  -- order
  abbrev pub BoardLaw : Type 0
  BoardLaw = (columns : Balances) (base_replies : List Reply) (calls : List (BoardCall B)) (board : BoardOf B)
      → Plays (board_at_opening columns base_replies) calls board → IsTrueToLog columns base_replies calls board
