-- Draining a board: its exchanges with a crew, and what it leaves as it was.
use Rattle.std.specs.Prelude.{◌≡◌, ◌≢◌, ℕ, Option, Some, None, List, [], ◌∷◌, ◌++◌, slice_get}
use Rattle.sb_calls.specs.Behaviour.{declared_cowns, effect_of}
use Rattle.sb_calls.specs.declared.op.Op.{Op}
use Rattle.sb_calls.specs.declared.reply.Reply.{Reply}
use Rattle.cown_board.specs.Board.{BoardOf, unfinished_of, IsOutHere, Takes, Finishes}
use Rattle.cown_board.specs.Job.{JobOf, DoneOf}
use Rattle.cown_board.specs.Readiness.{ready_positions}
use Rattle.cown_board.specs.declared.state.State.TheVariants.{Out, Finished}

-- one exchange with a crew: it was given a job, which it kept or which came back; or it was asked,
-- and handed over a result, if any
pub data CrewStep : Type 0 where
  Kept : (job : JobOf Op) → CrewStep
  CameBack : (job : JobOf Op) → CrewStep
  HandedOver : (answer : Option (DoneOf Op)) → CrewStep

-- a crew took these steps one after another
abbrev pub TakesSteps : {C : Type 0} → (C → CrewStep → C → Type 0) → C → List CrewStep → C → Type 0
TakesSteps acts old [] new = new ≡ old
TakesSteps {C} acts old (step ∷ steps) new = (mid : C) × acts old step mid × TakesSteps acts mid steps new

-- the steps of a crew without workers: each job comes back, and nothing is handed over
abbrev pub KeepsNoJob : CrewStep → Type 0
KeepsNoJob (Kept job) = ⊥
KeepsNoJob (CameBack job) = Unit {0}
KeepsNoJob (HandedOver None) = Unit {0}
KeepsNoJob (HandedOver (Some done)) = ⊥

-- no op is out
abbrev pub HasNoneOut : BoardOf Op → Type 0
HasNoneOut board = (k : ℕ) → slice_get board.states k ≢ Some Out

-- no op is ready
abbrev pub HasNoneReady : BoardOf Op → Type 0
HasNoneReady board = ready_positions declared_cowns board.log board.states ≡ []

-- nothing is ready, and something is unfinished: only the crew can make progress
pub record AwaitsCrew (board : BoardOf Op) : Type 0 where
  pub none_ready : HasNoneReady board
  pub unfinished : unfinished_of board ≢ 0

-- the result is that of the job
abbrev pub IsResultOf : DoneOf Op → JobOf Op → Type 0
IsResultOf done job = (done.number ≡ job.number) × (done.behaviour ≡ job.behaviour) × (done.inputs ≡ job.inputs)

-- the first ready op was taken off the board as this job, executed in place, and finished
pub record RunsInPlace (old : BoardOf Op) (job : JobOf Op) (new : BoardOf Op) : Type 0 where
  pub taken : BoardOf Op
  pub takes : Takes declared_cowns effect_of old 0 job taken
  pub done : DoneOf Op
  pub is_of : IsResultOf done job
  pub reply : Reply
  pub finishes : Finishes declared_cowns effect_of taken done reply new

-- the board before and after an exchange. A job that is given is that of the first ready op, which
-- is out if the crew keeps it. The crew is asked only if the board awaits it, and what it hands
-- over is finished.
abbrev pub Exchange : BoardOf Op → CrewStep → BoardOf Op → Type 0
Exchange old (Kept job) new = Takes declared_cowns effect_of old 0 job new
Exchange old (CameBack job) new = RunsInPlace old job new
Exchange old (HandedOver None) new = ⊥
Exchange old (HandedOver (Some done)) new =
    AwaitsCrew old × ((reply : Reply) × Finishes declared_cowns effect_of old done reply new)

-- the effect of these exchanges, one after another
abbrev pub Exchanges : BoardOf Op → List CrewStep → BoardOf Op → Type 0
Exchanges old [] new = new ≡ old
Exchanges old (step ∷ steps) new = (mid : BoardOf Op) × Exchange old step mid × Exchanges mid steps new

-- an exchange after which no board can go on: it awaits the crew, which hands over nothing, or a
-- result that isn't out
abbrev pub IsInVain : BoardOf Op → CrewStep → Type 0
IsInVain board (Kept job) = ⊥
IsInVain board (CameBack job) = ⊥
IsInVain board (HandedOver None) = AwaitsCrew board
IsInVain board (HandedOver (Some done)) = AwaitsCrew board × (¬ IsOutHere declared_cowns effect_of board done)

-- the board was drained by these exchanges, and nothing is unfinished
pub record IsDrained (old : BoardOf Op) (steps : List CrewStep) (new : BoardOf Op) : Type 0 where
  pub exchanges : Exchanges old steps new
  pub idle : unfinished_of new ≡ 0

-- the crew is gone: exchanges, the last of them in vain
pub record EndsInVain (old : BoardOf Op) (steps : List CrewStep) (new : BoardOf Op) : Type 0 where
  pub before : List CrewStep
  pub last : CrewStep
  pub steps_are : steps ≡ before ++ last ∷ []
  pub exchanges : Exchanges old before new
  pub in_vain : IsInVain new last

-- the log, what came before it, and the cut stay; what was finished stays finished, with the same
-- reply
pub record PreservesLog (old new : BoardOf Op) : Type 0 where
  pub opening : new.opening ≡ old.opening
  pub base_replies : new.base_replies ≡ old.base_replies
  pub log : new.log ≡ old.log
  pub cut : new.cut ≡ old.cut
  pub finished : (k : ℕ) (reply : Reply) → slice_get old.states k ≡ Some (Finished reply)
      → slice_get new.states k ≡ Some (Finished reply)
