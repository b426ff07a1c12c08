-- A sequencer that is cut at a length, as answers come.
use Rattle.std.proofs.Common.{◌≡◌, ℕ, zero, suc, ◌-◌, ◌<◌, ◌≤◌, Some, None, List, [], ◌∷◌, ◌++◌, length, replicate, take, drop, get_or, slice_get, slice_set, refl, sym, ap, ◌∙◌, arith}
use Rattle.std.proofs.lemmas.List.{length-take-le, length-set, set-append_left}
use Rattle.std.proofs.lemmas.Option.{get_or_from_slice_get, slice_get_within}
use Rattle.sb_calls.specs.declared.ask.Key.{Key}
use Rattle.sb_calls.specs.declared.reply.Reply.{Reply}
use Rattle.sb_sequencer.specs.Notes.{IsAnswerNote, after_answer, answer_of, answer_slot}
use Rattle.sb_sequencer.specs.Numbering.{same_key}
use Rattle.sb_sequencer.specs.Sequencer.{SequencerOf, IsSequencer}
use Rattle.sb_sequencer.specs.declared.note.AnswerNote.{AnswerNote}
use Rattle.sb_sequencer.specs.declared.note.AnswerNote.TheVariants.{Kept, Repeat, Odd, Unknown}
use Rattle.sb_ask_log.specs.MemoryLog.{MemoryLogOf}
use Rattle.schedule_sequencer.specs.DurableSequencer.{after_sync}
use Rattle.schedule_sequencer.specs.inner.Views.{IsDurableSequencer, cut_at}
use Rattle.schedule_sequencer.proofs.Answers.{answer-append}

slice_get-take : {X : Type 0} (size : ℕ) (xs : List X) (index : ℕ) → index < size → slice_get (take size xs) index ≡ slice_get xs index
slice_get-take zero xs index l = absurd (omega (arith, l))
slice_get-take (suc size) [] index l = refl
slice_get-take (suc size) (x ∷ xs) zero l = refl
slice_get-take (suc size) (x ∷ xs) (suc index) l = slice_get-take size xs index (omega (arith, l))

take-set : {X : Type 0} (size : ℕ) (xs : List X) (index : ℕ) (x : X) → take size (slice_set xs index x) ≡ slice_set (take size xs) index x
take-set zero xs index x = refl
take-set (suc size) [] index x = refl
take-set (suc size) (y ∷ xs) zero x = refl
take-set (suc size) (y ∷ xs) (suc index) x = ap (λ rest. y ∷ rest) (take-set size xs index x)

-- the slot of a number up to the cut is the whole sequencer's
slot-cut : (size : ℕ) (s : SequencerOf) (number : ℕ) → number ≤ size → answer_slot (cut_at size s).synced number ≡ answer_slot s number
slot-cut size s zero l = refl
slot-cut size s (suc index) l = slice_get-take size s.answers index (omega (arith, l))

-- a note speaks of the slot alone
note_of_slot : (s t : SequencerOf) (number : ℕ) (reply : Reply) (note : AnswerNote) → answer_slot t number ≡ answer_slot s number
    → IsAnswerNote s number reply note → IsAnswerNote t number reply note
note_of_slot s t number reply Kept e h = e ∙ h
note_of_slot s t number reply Repeat e h = e ∙ h
note_of_slot s t number reply Odd e h = (h.0, e ∙ h.1, h.2)
note_of_slot s t number reply Unknown e h = e ∙ h

-- so a note on a number up to the cut is the same on both
pub note-cut : (size : ℕ) (s : SequencerOf) (number : ℕ) (reply : Reply) (note : AnswerNote) → number ≤ size → IsAnswerNote s number reply note
    → IsAnswerNote (cut_at size s).synced number reply note
note-cut size s number reply note l h = note_of_slot s (cut_at size s).synced number reply note (slot-cut size s number l) h

-- an answer comes before a cut as after it
pub answer-cut : (size : ℕ) (s : SequencerOf) (number : ℕ) (reply : Reply) (note : AnswerNote)
    → cut_at size (after_answer s number reply note)
    ≡ record (cut_at size s) { synced = after_answer (cut_at size s).synced number reply note }
answer-cut size s number reply Kept =
    ap (λ answers. record {
      synced = record { log = take size s.log; recorded = s.recorded; checkpoints = s.checkpoints; answers = answers };
      unsynced = drop size s.log;
    })
    (take-set size s.answers (number - 1) (Some reply))
answer-cut size s number reply Repeat = refl
answer-cut size s number reply Odd = refl
answer-cut size s number reply Unknown = refl

-- the answer for a key is that of the calls up to the cut
pub answer_of-cut : (size : ℕ) (s : SequencerOf) (key : Key) → IsSequencer (cut_at size s).synced → (after_sync (cut_at size s)).synced ≡ s
    → answer_of s key ≡ answer_of (cut_at size s).synced key
answer_of-cut size s key is whole =
    ap (λ t. answer_of t key) (sym whole)
    ∙ answer-append (λ entry. same_key key entry.0) (take size s.log) (drop size s.log) (take size s.answers) (length (drop size s.log)) is.answers refl

-- no replica is beyond the cut
pub recorded_within : (log : MemoryLogOf) (s : SequencerOf) (nodes : ℕ) → IsDurableSequencer log s nodes
    → (replica recorded : ℕ) → slice_get s.recorded replica ≡ Some recorded → recorded ≤ log.synced
recorded_within log s nodes is replica recorded e =
    let size : length (take log.synced s.log) ≡ log.synced = length-take-le log.synced s.log is.file.few in
    let here : get_or s.recorded replica recorded ≡ recorded = get_or_from_slice_get s.recorded replica recorded recorded e in
    omega (arith, size, here, is.synced.recorded replica recorded (slice_get_within s.recorded replica recorded e))

module _ (log : MemoryLogOf) (s : SequencerOf) (nodes number : ℕ) (reply : Reply) (is : IsDurableSequencer log s nodes) where
  kept : number ≤ log.synced → IsAnswerNote s number reply Kept → IsDurableSequencer log (after_answer s number reply Kept) nodes
  kept l h =
      let answers = take log.synced s.answers in
      let size : length answers ≡ log.synced = is.synced.answers ∙ length-take-le log.synced s.log is.file.few in
      let within : number - 1 < length answers = omega (arith, l, size, at number h) in
      let moved : take log.synced (slice_set s.answers (number - 1) (Some reply)) ≡ slice_set answers (number - 1) (Some reply) =
      take-set log.synced s.answers (number - 1) (Some reply) in
      let rest = replicate (length (drop log.synced s.log)) None in
      record {
        file = is.file;
        synced = record {
          log = is.synced.log;
          answers = ap length moved ∙ length-set answers (number - 1) (Some reply) ∙ is.synced.answers;
          recorded = is.synced.recorded;
          same_length = is.synced.same_length;
          checkpoints = is.synced.checkpoints;
        };
        whole =
            let joined : slice_set answers (number - 1) (Some reply) ++ rest ≡ slice_set s.answers (number - 1) (Some reply) =
            sym (set-append_left answers rest (number - 1) (Some reply) within)
            ∙ ap (λ t. slice_set t.answers (number - 1) (Some reply)) is.whole in
            λ j. record (is.whole j) { answers = (ap (λ items. items ++ rest) moved ∙ joined) j };
        nodes_are = is.nodes_are;
        few = is.few;
      }
    where
      at : (n : ℕ) → answer_slot s n ≡ Some None → 0 < n
      at zero e = cc
      at (suc n) e = omega arith

  pub answered : (note : AnswerNote) → number ≤ log.synced → IsAnswerNote s number reply note
      → IsDurableSequencer log (after_answer s number reply note) nodes
  answered Kept l h = kept l h
  answered Repeat l h = is
  answered Odd l h = is
  answered Unknown l h = is
