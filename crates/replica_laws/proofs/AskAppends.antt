-- An ask of a server is an append of the machine.
use Rattle.std.proofs.Common.{◌≡◌, ◌≢◌, ◌⊎◌, inl, inr, ℕ, ◌+◌, ◌<◌, ◌≤◌, Option, Some, None, Result, Ok, Err, List, [], ◌∷◌, ◌++◌, length, refl, sym, ap, ◌∙◌, append_assoc}
use Rattle.std.specs.Prelude.{slice_get}
use Rattle.std.proofs.lemmas.Bool.{cases_lt}
use Rattle.cown_board.proofs.LogLaws.{no_some as none_some}
use Rattle.cown_board.proofs.LogLaws.{injective as some_is}
use Rattle.sb_calls.specs.declared.ask.Key.{Key}
use Rattle.sb_calls.specs.declared.call.Call.{Call}
use Rattle.sb_calls.specs.declared.call.TheConstants.{LOG_CALLS}
use Rattle.sb_sequencer.proofs.LogSteps.{first_asks-answered}
use Rattle.sb_sequencer.specs.Answer.{AnswersAsk}
use Rattle.sb_sequencer.specs.Numbering.{first_asks, index_of_key}
use Rattle.sb_sequencer.specs.declared.answer.AskFault.{AskFault}
use Rattle.sb_sequencer.specs.declared.answer.AskFault.TheVariants.{Mismatch, LogFull, OutOfMemory}
use Rattle.sb_sequencer.specs.declared.answer.Numbered.{Numbered}
use Rattle.sb_sequencer.specs.declared.answer.Numbered.TheVariants.{New, Repeat}
use Rattle.schedule_player.specs.World.{WorldOf, AppendsAsk, world_log}
use Rattle.schedule_sequencer.specs.DurableSequencer.{after_append}
use Rattle.schedule_text.specs.declared.note.Note.{Note}
use Rattle.schedule_text.specs.declared.note.Note.TheVariants as note
use Rattle.replica_laws.specs.AskAppends.{AsksAppend}
use Rattle.replica_laws.proofs.SameAsks.{same_ask_or_not}

-- ---- no answer is for want of memory

new_remembered : (n : ℕ) → ◌≡◌ {A = Result Numbered AskFault} (Ok (New n)) (Err OutOfMemory) → ⊥
new_remembered n h = cc

repeat_remembered : (n : ℕ) → ◌≡◌ {A = Result Numbered AskFault} (Ok (Repeat n)) (Err OutOfMemory) → ⊥
repeat_remembered n h = cc

mismatch_remembered : (n : ℕ) → ◌≡◌ {A = Result Numbered AskFault} (Err (Mismatch n)) (Err OutOfMemory) → ⊥
mismatch_remembered n h = cc

full_remembered : ◌≡◌ {A = Result Numbered AskFault} (Err LogFull) (Err OutOfMemory) → ⊥
full_remembered h = cc

-- ---- the append

-- the machine can append the ask, and has the first asks then
abbrev CanAppend : WorldOf → List (Key × Call) → Key × Call → Type 0
CanAppend world asks ask =
    (n : Note) × (after : WorldOf) × AppendsAsk world ask n after × (world_log after ≡ first_asks (asks ++ ask ∷ []))

module _ (world : WorldOf) (asks : List (Key × Call)) (ask : Key × Call) (firsts : world_log world ≡ first_asks asks) where
  -- the log has the ask's key at a place
  known_key : (place : ℕ) → index_of_key (world_log world) ask.0 ≡ Some place
      → (slice_get (world_log world) place ≡ Some ask) ⊎ (slice_get (world_log world) place ≢ Some ask) → CanAppend world asks ask
  known_key place index (inl same) =
      let answers : AnswersAsk (world_log world) ask (Ok (Repeat (place + 1))) = (place, index, refl, same) in (
        note.Repeat (place + 1),
        world,
        (answers, refl),
        first_asks-answered asks (world_log world) (world_log world) ask (Ok (Repeat (place + 1))) answers refl (repeat_remembered (place + 1)) firsts,
      )
  known_key place index (inr differs) =
      let answers : AnswersAsk (world_log world) ask (Err (Mismatch (place + 1))) = (place, index, refl, differs) in (
        note.Mismatch (place + 1),
        world,
        (answers, refl),
        first_asks-answered asks (world_log world) (world_log world) ask (Err (Mismatch (place + 1))) answers refl (mismatch_remembered (place + 1)) firsts,
      )

  -- it has no such key
  new_key : index_of_key (world_log world) ask.0 ≡ None → (length (world_log world) < LOG_CALLS) ⊎ (LOG_CALLS ≤ length (world_log world))
      → CanAppend world asks ask
  new_key index (inl room) =
      let n : ℕ = length (world_log world) + 1 in
      let after : WorldOf = record world { sequencer = after_append world.sequencer ask (Ok (New n)) } in
      let answers : AnswersAsk (world_log world) ask (Ok (New n)) = (index, room, refl) in (
        note.New n,
        after,
        (answers, refl),
        first_asks-answered asks (world_log world) (world_log after) ask (Ok (New n)) answers
            (sym (append_assoc world.sequencer.synced.log world.sequencer.unsynced (ask ∷ []))) (new_remembered n) firsts,
      )
  new_key index (inr full) =
      let answers : AnswersAsk (world_log world) ask (Err LogFull) = (index, full) in (
        note.LogFull,
        world,
        (answers, refl),
        first_asks-answered asks (world_log world) (world_log world) ask (Err LogFull) answers refl full_remembered firsts,
      )

  -- what stands at a place of the log is the ask, or isn't
  at_place : (place : ℕ) (found : Option (Key × Call)) → slice_get (world_log world) place ≡ found
      → (slice_get (world_log world) place ≡ Some ask) ⊎ (slice_get (world_log world) place ≢ Some ask)
  at_place place None here = inr (λ same. none_some (sym here ∙ same))
  at_place place (Some one) here = elim (same_ask_or_not one ask) [
    | inl same ↦ inl (here ∙ ap (λ a. Some a) same)
    | inr differs ↦ inr (λ same. differs (some_is (sym here ∙ same)))
  ]

  by_index : (index : Option ℕ) → index_of_key (world_log world) ask.0 ≡ index → CanAppend world asks ask
  by_index (Some place) is = known_key place is (at_place place (slice_get (world_log world) place) refl)
  by_index None is = new_key is (cases_lt (length (world_log world)) LOG_CALLS)

pub asks_append : AsksAppend
asks_append world asks ask firsts = by_index world asks ask firsts (index_of_key (world_log world) ask.0) refl
