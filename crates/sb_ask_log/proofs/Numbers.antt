-- Which asks a log takes no more.
use Rattle.std.proofs.Common.{◌≡◌, ℕ, ◌<◌, Some, Result, Ok, Err, get_or, subst, List, [], ◌∷◌, ◌++◌, length, sym, ap, ◌∙◌, arith, length-append}
use Rattle.std.proofs.lemmas.List.{get_or_append_left}
use Rattle.std.proofs.Math.Seq.{get_or-append_seam}
use Rattle.std.proofs.lemmas.List.Quantifiers.{position-Some}
use Rattle.sb_calls.specs.declared.ask.Key.{Key}
use Rattle.sb_calls.specs.declared.call.Call.{Call}
use Rattle.sb_sequencer.specs.Answer.{AnswersAsk}
use Rattle.sb_sequencer.specs.declared.answer.AskFault.{AskFault}
use Rattle.sb_sequencer.specs.declared.answer.AskFault.TheVariants.{Mismatch}
use Rattle.sb_sequencer.specs.declared.answer.Numbered.{Numbered}
use Rattle.sb_sequencer.specs.declared.answer.Numbered.TheVariants.{Repeat}
use Rattle.sb_sequencer.specs.Numbering.{IsLog, index_of_key, same_key}
use Rattle.sb_sequencer.proofs.Keys.{same_key_same}

-- a log of no asks
pub no_log : IsLog []
no_log = record { limit = omega arith; different = λ i j d lt bound. absurd (omega (arith, lt, bound)) }

-- no log takes a key again
pub takes_no_key_again : (log more : List (Key × Call)) (ask : Key × Call) (k : ℕ) → index_of_key log ask.0 ≡ Some k → IsLog (log ++ ask ∷ more) → ⊥
takes_no_key_again log more ask k there is =
    let at = position-Some (λ (entry : Key × Call). same_key ask.0 entry.0) log k ask there in
    let lt : k < length log = at.0 in
    is.different k (length log) ask lt (omega (arith, length-append log (ask ∷ more)))
    (ap (λ (a : Key × Call). a.0) (get_or_append_left log (ask ∷ more) ask k lt)
    ∙ sym (same_key_same ask.0 (get_or log k ask).0 at.1)
    ∙ sym (ap (λ (a : Key × Call). a.0) (get_or-append_seam log ask more ask)))

-- so a repeat is none of its asks
pub takes_no_repeat : (log more : List (Key × Call)) (ask : Key × Call) (result : Result Numbered AskFault) (n : ℕ) → AnswersAsk log ask result
    → result ≡ Ok (Repeat n) → IsLog (log ++ ask ∷ more) → ⊥
takes_no_repeat log more ask result n answers e is =
    let at = subst (AnswersAsk log ask) e answers in
    takes_no_key_again log more ask at.0 at.1 is

pub takes_no_mismatch : (log more : List (Key × Call)) (ask : Key × Call) (result : Result Numbered AskFault) (n : ℕ) → AnswersAsk log ask result
    → result ≡ Err (Mismatch n) → IsLog (log ++ ask ∷ more) → ⊥
takes_no_mismatch log more ask result n answers e is =
    let at = subst (AnswersAsk log ask) e answers in
    takes_no_key_again log more ask at.0 at.1 is
