-- What a submission does, by its answer.
use Rattle.std.proofs.Common.{◌≡◌, ◌≢◌, ℕ, ◌+◌, ℤ, Ok, Err, List, [], ◌∷◌, ◌++◌, length, refl, sym, ◌∙◌, arith}
use Rattle.sb_calls.specs.declared.call.TheConstants.{LOG_CALLS}
use Rattle.sb_calls.specs.declared.reply.Reply.{Reply}
use Rattle.cown_board.proofs.JobTake.{seen}
use Rattle.cown_board.specs.inner.BoardInvariant.{BoardInside, IsBoard}
use Rattle.cown_board.specs.BoardCalls.{Submits}
use Rattle.cown_board.specs.declared.board.SubmitFault.TheVariants.{Busy, LogFull, OutOfMemory}
use Rattle.cown_board.specs.declared.board.TheConstants.{OPEN_BEHAVIOURS}
use Rattle.cown_board.specs.declared.state.State.TheVariants.{Waiting}

module _ {B : Type 0} (touches : B → List ℕ) (effect : B → List ℤ → Reply × List ℤ) {inside : BoardInside B}
    (board : IsBoard touches effect inside) (behaviour : B) where
  pub submits_busy : inside.unfinished ≡ OPEN_BEHAVIOURS
      → Submits (seen touches effect board) behaviour (Err Busy) (seen touches effect board)
  submits_busy busy = (sym board.unfinished ∙ busy, refl)

  pub submits_full : inside.unfinished ≢ OPEN_BEHAVIOURS → inside.base + length inside.log ≡ LOG_CALLS
      → Submits (seen touches effect board) behaviour (Err LogFull) (seen touches effect board)
  submits_full some full = (λ busy. some (board.unfinished ∙ busy), omega (arith, full, board.base_length), refl)

  pub submits_no_memory : inside.unfinished ≢ OPEN_BEHAVIOURS → inside.base + length inside.log ≢ LOG_CALLS
      → Submits (seen touches effect board) behaviour (Err OutOfMemory) (seen touches effect board)
  submits_no_memory some room =
      (λ busy. some (board.unfinished ∙ busy), λ full. room (omega (arith, full, board.base_length)), refl)

  pub submits_next : (number : ℕ) → inside.unfinished ≢ OPEN_BEHAVIOURS → inside.base + length inside.log ≢ LOG_CALLS
      → number ≡ inside.base + length inside.log + 1
      → Submits (seen touches effect board) behaviour (Ok number)
      (record (seen touches effect board) { log = inside.log ++ behaviour ∷ []; states = inside.states ++ Waiting ∷ [] })
  submits_next number some room is = (
    λ busy. some (board.unfinished ∙ busy),
    λ full. room (omega (arith, full, board.base_length)),
    omega (arith, is, board.base_length),
    refl,
  )
