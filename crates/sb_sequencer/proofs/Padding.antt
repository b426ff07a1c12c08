-- Answers by place, followed by places without an answer.
use Rattle.std.proofs.Common.{◌≡◌, ℕ, ◌+◌, ◌-◌, ◌<◌, ◌≤◌, Option, Some, None, List, [], ◌∷◌, ◌++◌, length, replicate, slice_get, slice_set, get_or, refl, sym, ap, ◌∙◌, arith, append-nil, append_assoc, length-append}
use Rattle.std.proofs.lemmas.List.{length-replicate, replicate_more, replicate-append-replicate}
use Rattle.std.proofs.lemmas.Option.{slice_get_read}
use Rattle.std.proofs.Math.Seq.{set-append_seam}
use Rattle.sb_calls.specs.declared.reply.Reply.{Reply}
use Rattle.sb_sequencer.specs.inner.StoredAnswers.{ComparesAnswers, StoresAnswer}
use Rattle.sb_sequencer.specs.inner.Padding.{padded_answers}
use Rattle.sb_sequencer.specs.declared.note.AnswerNote.{AnswerNote}
use Rattle.sb_sequencer.specs.declared.note.AnswerNote.TheVariants.{Kept, Repeat, Odd, Unknown}

-- if all places are filled, none is added
pub padded_answers-full : (places : ℕ) (kept : List (Option Reply)) → places ≤ length kept → padded_answers places kept ≡ kept
padded_answers-full places kept l =
    let none : places - length kept ≡ 0 = omega (arith, l) in
    ap (λ n. kept ++ replicate n None) none ∙ append-nil kept

pub length-padded_answers : (places : ℕ) (kept : List (Option Reply)) → length kept ≤ places → length (padded_answers places kept) ≡ places
length-padded_answers places kept l =
    let none : Option Reply = None in
    omega (arith, l, length-append kept (replicate (places - length kept) None), length-replicate (places - length kept) none)

-- one more place has no answer
pub padded_answers-push : (places : ℕ) (kept : List (Option Reply)) → length kept ≤ places
    → padded_answers (places + 1) kept ≡ padded_answers places kept ++ None ∷ []
padded_answers-push places kept l =
    let more : places + 1 - length kept ≡ places - length kept + 1 = omega (arith, l) in
    ap (λ n. kept ++ replicate n None) more
    ∙ ap (λ rest. kept ++ rest) (sym (replicate_more (places - length kept) None))
    ∙ sym (append_assoc kept (replicate (places - length kept) None) (None ∷ []))

-- padding twice is padding once
pub padded_answers-padded_answers : (some places : ℕ) (kept : List (Option Reply)) → length kept ≤ some → some ≤ places
    → padded_answers places kept ≡ padded_answers some kept ++ replicate (places - some) None
padded_answers-padded_answers some places kept l m =
    let parts : places - length kept ≡ some - length kept + (places - some) = omega (arith, l, m) in
    ap (λ n. kept ++ replicate n None) parts
    ∙ ap (λ rest. kept ++ rest) (sym (replicate-append-replicate (some - length kept) (places - some) None))
    ∙ sym (append_assoc kept (replicate (some - length kept) None) (replicate (places - some) None))

-- the place after a list is that of the appended element
slice_get-last : {X : Type 0} (xs : List X) (x : X) → slice_get (xs ++ x ∷ []) (length xs) ≡ Some x
slice_get-last [] x = refl
slice_get-last (first ∷ xs) x = slice_get-last xs x

-- an answer at a place without one takes an added place
pub storing_first : (place : ℕ) (kept : List (Option Reply)) (answer : Option Reply) → length kept ≤ place
    → (slice_get (padded_answers (place + 1) kept) place ≡ Some None)
    × (padded_answers place kept ++ answer ∷ [] ≡ slice_set (padded_answers (place + 1) kept) place answer)
storing_first place kept answer l =
    let more = padded_answers-push place kept l in
    let at : length (padded_answers place kept) ≡ place = length-padded_answers place kept l in (
      (λ j. slice_get (more j) (sym at j)) ∙ slice_get-last (padded_answers place kept) None,
      sym (set-append_seam (padded_answers place kept) None [] answer) ∙ (λ j. slice_set (sym more j) (at j) answer),
    )

-- a filled place holds what is read there
pub storing_again : (place : ℕ) (kept : List (Option Reply)) (found answer : Option Reply) → place < length kept → found ≡ get_or kept place found
    → found ≡ answer → (slice_get (padded_answers (place + 1) kept) place ≡ Some answer) × (kept ≡ padded_answers (place + 1) kept)
storing_again place kept found answer l e is =
    let same : padded_answers (place + 1) kept ≡ kept = padded_answers-full (place + 1) kept (omega (arith, l)) in
    (ap (λ xs. slice_get xs place) same ∙ slice_get_read kept (length kept) place found refl l e ∙ ap Some is, sym same)

-- and a further answer there is compared with it
pub storing_compared : (place : ℕ) (kept : List (Option Reply)) (first reply : Reply) (note : AnswerNote)
    → (slice_get (padded_answers (place + 1) kept) place ≡ Some (Some first)) × (kept ≡ padded_answers (place + 1) kept) → ComparesAnswers first reply note
    → StoresAnswer (padded_answers (place + 1) kept) place reply note kept
storing_compared place kept first reply Repeat again same = (again.0 ∙ ap (λ r. Some (Some r)) same, again.1)
storing_compared place kept first reply Odd again other = ((first, again.0, other), again.1)
storing_compared place kept first reply Kept again h = absurd h
storing_compared place kept first reply Unknown again h = absurd h
