-- Answers that are kept, in the sequencer's own terms.
use Rattle.std.proofs.Common.{◌≡◌, ℕ, zero, suc, ◌+◌, ◌-◌, ◌<◌, ◌≤◌, inl, inr, Option, Some, None, List, [], ◌∷◌, ◌++◌, length, replicate, slice_get, slice_set, refl, sym, ap, ◌∙◌, arith}
use Rattle.std.specs.Option.{option_and_then, option_flatten}
use Rattle.std.proofs.lemmas.Bool.{cases_lt}
use Rattle.std.proofs.lemmas.List.{set-append_left, length-set}
use Rattle.sb_calls.specs.declared.ask.Key.{Key}
use Rattle.sb_calls.specs.declared.call.Call.{Call}
use Rattle.sb_calls.specs.declared.reply.Reply.{Reply}
use Rattle.sb_sequencer.specs.inner.StoredAnswers.{StoresAnswer}
use Rattle.sb_sequencer.specs.Notes.{IsAnswerNote, after_answer, answer_of, answer_slot}
use Rattle.sb_sequencer.specs.Numbering.{index_of_key}
use Rattle.sb_sequencer.specs.Sequencer.{SequencerOf}
use Rattle.sb_sequencer.specs.inner.Padding.{padded_answers}
use Rattle.sb_sequencer.specs.declared.note.AnswerNote.{AnswerNote}
use Rattle.sb_sequencer.specs.declared.note.AnswerNote.TheVariants.{Kept, Repeat, Odd, Unknown}
use Rattle.sb_sequencer.proofs.Padding.{padded_answers-full, length-padded_answers, padded_answers-padded_answers}

-- ---- places that are filled without an answer change nothing

filled_within : (place : ℕ) (kept : List (Option Reply)) → (place < length (padded_answers (place + 1) kept))
    × (length kept ≤ length (padded_answers (place + 1) kept))
filled_within place kept = elim (cases_lt place (length kept)) [ inl l ↦ there l | inr l ↦ added l ]
  where
    there : place < length kept → (place < length (padded_answers (place + 1) kept)) × (length kept ≤ length (padded_answers (place + 1) kept))
    there l =
        let same : length (padded_answers (place + 1) kept) ≡ length kept = ap length (padded_answers-full (place + 1) kept (omega (arith, l))) in
        (omega (arith, l, same), omega (arith, same))

    added : length kept ≤ place → (place < length (padded_answers (place + 1) kept)) × (length kept ≤ length (padded_answers (place + 1) kept))
    added l =
        let is : length (padded_answers (place + 1) kept) ≡ place + 1 = length-padded_answers (place + 1) kept (omega (arith, l)) in
        (omega (arith, is), omega (arith, l, is))

pub padded_answers-again : (some places : ℕ) (kept : List (Option Reply)) → length kept ≤ places → some ≤ places
    → padded_answers places (padded_answers some kept) ≡ padded_answers places kept
padded_answers-again some places kept l m = elim (cases_lt some (length kept)) [ inl h ↦ there h | inr h ↦ added h ]
  where
    there : some < length kept → padded_answers places (padded_answers some kept) ≡ padded_answers places kept
    there h = ap (padded_answers places) (padded_answers-full some kept (omega (arith, h)))

    added : length kept ≤ some → padded_answers places (padded_answers some kept) ≡ padded_answers places kept
    added h =
        ap (λ n. padded_answers some kept ++ replicate (places - n) None) (length-padded_answers some kept h)
        ∙ sym (padded_answers-padded_answers some places kept h m)

-- an answer put at a filled place is at that place among all places
padded-set : (places place : ℕ) (filled : List (Option Reply)) (answer : Option Reply) → place < length filled
    → padded_answers places (slice_set filled place answer) ≡ slice_set (padded_answers places filled) place answer
padded-set places place filled answer l =
    ap (λ n. slice_set filled place answer ++ replicate (places - n) None) (length-set filled place answer)
    ∙ sym (set-append_left filled (replicate (places - length filled) None) place answer l)

-- an element of a list stays where it is if others follow
slice_get-append : {X : Type 0} (xs ys : List X) (i : ℕ) → i < length xs → slice_get (xs ++ ys) i ≡ slice_get xs i
slice_get-append [] ys i l = absurd (omega (arith, l))
slice_get-append (x ∷ xs) ys zero l = refl
slice_get-append (x ∷ xs) ys (suc i) l = slice_get-append xs ys i (omega (arith, l))

-- ---- what an answer changes, and how it is noted

module _ (log : List (Key × Call)) (recorded checkpoints : List ℕ) (kept : List (Option Reply)) (place number : ℕ) (reply : Reply)
    (few : length kept ≤ length log) (within : place < length log) (is : number ≡ suc place) where
  abbrev with_answers : List (Option Reply) → SequencerOf
  with_answers answers = record { log = log; recorded = recorded; checkpoints = checkpoints; answers = padded_answers (length log) answers }

  again : padded_answers (length log) (padded_answers (place + 1) kept) ≡ padded_answers (length log) kept
  again = padded_answers-again (place + 1) (length log) kept few (omega (arith, within))

  slot : answer_slot (with_answers kept) number ≡ slice_get (padded_answers (place + 1) kept) place
  slot =
      let filled = padded_answers (place + 1) kept in
      ap (answer_slot (with_answers kept)) is ∙ ap (λ answers. slice_get answers place) (sym again)
      ∙ slice_get-append filled (replicate (length log - length filled) None) place (filled_within place kept).0

  pub answered_note : (note : AnswerNote) (new : List (Option Reply)) → StoresAnswer (padded_answers (place + 1) kept) place reply note new
      → IsAnswerNote (with_answers kept) number reply note
  answered_note Kept new h = slot ∙ h.0
  answered_note Repeat new h = slot ∙ h.0
  answered_note Odd new h = (h.0.0, slot ∙ h.0.1, h.0.2)
  answered_note Unknown new h = absurd h

  unchanged : (new : List (Option Reply)) → new ≡ padded_answers (place + 1) kept → with_answers new ≡ with_answers kept
  unchanged new e =
      ap (λ answers. record { log = log; recorded = recorded; checkpoints = checkpoints; answers = answers }) (ap (padded_answers (length log)) e ∙ again)

  pub answered_state : (note : AnswerNote) (new : List (Option Reply)) → StoresAnswer (padded_answers (place + 1) kept) place reply note new
      → with_answers new ≡ after_answer (with_answers kept) number reply note
  answered_state Kept new h =
      let there : place < length (padded_answers (place + 1) kept) = (filled_within place kept).0 in
      let before : place ≡ number - 1 = omega (arith, is) in
      ap (λ answers. record { log = log; recorded = recorded; checkpoints = checkpoints; answers = answers })
      (ap (padded_answers (length log)) h.1 ∙ padded-set (length log) place (padded_answers (place + 1) kept) (Some reply) there
      ∙ (λ j. slice_set (again j) (before j) (Some reply)))
  answered_state Repeat new h = unchanged new h.1
  answered_state Odd new h = unchanged new h.1
  answered_state Unknown new h = absurd h

-- ---- what is kept for a place

none_added : (places place : ℕ) → option_flatten {T = Reply} (slice_get (replicate places None) place) ≡ None
none_added zero place = refl
none_added (suc places) zero = refl
none_added (suc places) (suc place) = none_added places place

flatten-append : (kept : List (Option Reply)) (places place : ℕ)
    → option_flatten (slice_get (kept ++ replicate places None) place) ≡ option_flatten (slice_get kept place)
flatten-append [] places place = none_added places place
flatten-append (answer ∷ kept) places zero = refl
flatten-append (answer ∷ kept) places (suc place) = flatten-append kept places place

-- a place that isn't filled has no answer
pub flatten-padded_answers : (places : ℕ) (kept : List (Option Reply)) (place : ℕ)
    → option_flatten (slice_get (padded_answers places kept) place) ≡ option_flatten (slice_get kept place)
flatten-padded_answers places kept place = flatten-append kept (places - length kept) place

-- so the answer for a key is what is kept at the place that the log has for it
pub answer_at : (log : List (Key × Call)) (recorded checkpoints : List ℕ) (kept : List (Option Reply)) (s : SequencerOf) (key : Key) (found : Option ℕ)
    → record { log = log; recorded = recorded; checkpoints = checkpoints; answers = padded_answers (length log) kept } ≡ s
    → found ≡ index_of_key log key
    → answer_of s key ≡ option_and_then (λ place. option_flatten (slice_get kept place)) found
answer_at log recorded checkpoints kept s key found is e =
    ap (λ sequencer. answer_of sequencer key) (sym is)
    ∙ ap (option_and_then (λ place. option_flatten (slice_get (padded_answers (length log) kept) place))) (sym e)
    ∙ there found
  where
    there : (place : Option ℕ) → option_and_then (λ at. option_flatten (slice_get (padded_answers (length log) kept) at)) place
        ≡ option_and_then (λ at. option_flatten (slice_get kept at)) place
    there None = refl
    there (Some place) = flatten-padded_answers (length log) kept place
