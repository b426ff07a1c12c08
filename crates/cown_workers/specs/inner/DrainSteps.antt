-- How far a drain has come.
use Rattle.std.specs.Prelude.{ℕ, List, count_by}
use Rattle.sb_calls.specs.declared.op.Op.{Op}
use Rattle.cown_board.specs.Board.{BoardOf}
use Rattle.cown_board.specs.State.{is_waiting}
use Rattle.cown_workers.specs.Draining.{CrewStep, Exchanges, TakesSteps}

-- the number of waiting ops
abbrev pub waiting_count : BoardOf Op → ℕ
waiting_count board = count_by is_waiting board.states

-- what a crew did, and what that did to the board
pub record HasExchanges {C : Type 0} (acts : C → CrewStep → C → Type 0) (before after : C) (old new : BoardOf Op)
    : Type 0 where
  pub steps : List CrewStep
  pub crew : TakesSteps acts before steps after
  pub board : Exchanges old steps new
