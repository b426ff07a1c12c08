-- A sequencer after one more ask.
use Rattle.std.proofs.Common.{◌≡◌, ℕ, ◌≤◌, Option, None, Result, Ok, Err, List, [], ◌∷◌, ◌++◌, length, ap, ◌∙◌, arith}
use Rattle.std.proofs.lemmas.List.{length_push}
use Rattle.sb_calls.specs.declared.ask.Key.{Key}
use Rattle.sb_calls.specs.declared.call.Call.{Call}
use Rattle.sb_calls.specs.declared.reply.Reply.{Reply}
use Rattle.sb_sequencer.specs.Answer.{AnswersAsk, LogAfter}
use Rattle.sb_sequencer.specs.inner.Rooms.{HasRooms}
use Rattle.sb_sequencer.specs.Sequencer.{SequencerOf, state_after_ask}
use Rattle.sb_sequencer.specs.inner.Padding.{padded_answers}
use Rattle.sb_sequencer.specs.declared.answer.AskFault.{AskFault}
use Rattle.sb_sequencer.specs.declared.answer.Numbered.{Numbered}
use Rattle.sb_sequencer.specs.declared.answer.Numbered.TheVariants.{New, Repeat}
use Rattle.sb_sequencer.proofs.LogSteps.{IsLog-answered}
use Rattle.sb_sequencer.proofs.Padding.{padded_answers-push}

-- the log never gets shorter
grows : (old new : List (Key × Call)) (ask : Key × Call) (result : Result Numbered AskFault) → LogAfter old ask result new → length old ≤ length new
grows old new ask (Ok (New n)) e = omega (arith, ap length e, length_push old ask)
grows old new ask (Ok (Repeat n)) e = omega (arith, ap length e)
grows old new ask (Err fault) e = omega (arith, ap length e)

-- so what was recorded and kept stays within it
pub asked_rooms : (old new : List (Key × Call)) (recorded checkpoints : List ℕ) (kept after : List (Option Reply)) (room more : ℕ) (ask : Key × Call)
    (result : Result Numbered AskFault) → HasRooms old recorded checkpoints kept room → AnswersAsk old ask result → LogAfter old ask result new → after ≡ kept
    → length new ≤ more → HasRooms new recorded checkpoints after more
asked_rooms old new recorded checkpoints kept after room more ask result is answered e same enough =
    let longer : length old ≤ length new = grows old new ask result e in
    record {
      log = IsLog-answered old new ask result is.log answered e;
      recorded = λ k d l. omega (arith, is.recorded k d l, longer);
      same_length = is.same_length;
      checkpoints = λ k d l. omega (arith, is.checkpoints k d l, longer);
      answers = omega (arith, ap length same, is.answers, longer);
      room = enough;
    }

-- and a new number has a place for its answer
pub asked_state : (old new : List (Key × Call)) (recorded checkpoints : List ℕ) (kept after : List (Option Reply)) (ask : Key × Call)
    (result : Result Numbered AskFault) → length kept ≤ length old → LogAfter old ask result new → after ≡ kept
    → let sequencer : List (Key × Call) → List (Option Reply) → SequencerOf
    = λ log answers. record { log = log; recorded = recorded; checkpoints = checkpoints; answers = padded_answers (length log) answers } in
    sequencer new after ≡ state_after_ask (sequencer old kept) ask result
asked_state old new recorded checkpoints kept after ask (Ok (New n)) few e same =
    let answers : padded_answers (length new) after ≡ padded_answers (length old) kept ++ None ∷ [] =
    (λ j. padded_answers (length (e j)) (same j)) ∙ ap (λ n. padded_answers n kept) (length_push old ask) ∙ padded_answers-push (length old) kept few in
    λ j. record { log = e j; recorded = recorded; checkpoints = checkpoints; answers = answers j }
asked_state old new recorded checkpoints kept after ask (Ok (Repeat n)) few e same = λ j. record {
  log = e j;
  recorded = recorded;
  checkpoints = checkpoints;
  answers = padded_answers (length (e j))
      (same j);
}
asked_state old new recorded checkpoints kept after ask (Err fault) few e same = λ j. record {
  log = e j;
  recorded = recorded;
  checkpoints = checkpoints;
  answers = padded_answers (length (e j)) (same j);
}
