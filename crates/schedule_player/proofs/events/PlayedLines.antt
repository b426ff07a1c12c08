-- Events of a list that were played, with the lines of their notes.
use Rattle.std.proofs.Common.{◌≡◌, false, ℕ, ◌+◌, ◌≤◌, Result, Ok, Err, Some, List, [], ◌∷◌, ◌++◌, length, map, take, refl, sym, ap, subst, ◌∙◌, arith, append_assoc, length-append}
use Rattle.std.specs.Prelude.{OnOk, is_err, slice_get}
use Rattle.std.proofs.Math.Seq.{take-append_seam}
use Rattle.std.proofs.lemmas.Grind.{flat_map-append}
use Rattle.std.proofs.lemmas.List.{append-nil, map-append}
use Rattle.sb_rows.specs.Text.{unlines}
use Rattle.schedule_player.specs.EventLists.{PlaysEvents}
use Rattle.schedule_player.specs.World.{WorldOf, Moves}
use Rattle.schedule_player.proofs.events.EventLists.{plays_more}
use Rattle.schedule_text.specs.NoteText.{note_line}
use Rattle.schedule_text.specs.declared.event.Event.{Event}
use Rattle.schedule_text.specs.declared.note.Note.{Note}

-- the events before those that are left happened, and their lines were written
pub record PlaysUpTo (old : WorldOf) (events left : List Event) (new : WorldOf) (before out : List ℕ) : Type 0 where
  pub done : List Event
  pub notes : List Note
  pub all : done ++ left ≡ events
  pub plays : PlaysEvents old done notes new
  pub written : out ≡ before ++ unlines (map note_line notes)

-- one more happens
pub up_to_next : (old : WorldOf) (events rest left : List Event) (middle new : WorldOf) (before out longer : List ℕ) (happens : Event) (note : Note)
    → PlaysUpTo old events rest middle before out → rest ≡ happens ∷ left → Moves middle happens note new
    → longer ≡ out ++ unlines (note_line note ∷ []) → PlaysUpTo old events left new before longer
up_to_next old events rest left middle new before out longer happens note so_far next moves written =
    record {
      done = so_far.done ++ happens ∷ [];
      notes = so_far.notes ++ note ∷ [];
      all = append_assoc so_far.done (happens ∷ []) left ∙ ap (λ es. so_far.done ++ es) (sym next) ∙ so_far.all;
      plays = plays_more old so_far.done so_far.notes middle happens note new so_far.plays moves;
      written =
          written
          ∙ ap (λ o. o ++ unlines (note_line note ∷ [])) so_far.written
          ∙ append_assoc before (unlines (map note_line so_far.notes)) (unlines (note_line note ∷ []))
          ∙ ap (λ o. before ++ o)
          (sym (flat_map-append (λ line. line ++ 10 ∷ []) (map note_line so_far.notes) (note_line note ∷ []))
          ∙ ap unlines (sym (map-append note_line so_far.notes (note ∷ []))));
    }

-- a line that wasn't refused was written
pub if_written : {A E P : Type 0} (wrote : Result A E) → is_err wrote ≡ false → OnOk wrote P → P
if_written (Ok x) none written = written
if_written (Err e) none written = absurd cc

-- all happened
pub up_to_last : (old : WorldOf) (events left : List Event) (new : WorldOf) (before out : List ℕ) → PlaysUpTo old events left new before out → left ≡ []
    → (notes : List Note) × PlaysEvents old events notes new × (out ≡ before ++ unlines (map note_line notes))
up_to_last old events left new before out so_far none =
    let all = sym (append-nil so_far.done) ∙ ap (λ es. so_far.done ++ es) (sym none) ∙ so_far.all in
    (so_far.notes, subst (λ es. PlaysEvents old es so_far.notes new) all so_far.plays, so_far.written)

-- ---- where the playing stops

-- this many of the events happened
pub record StopsAt (old : WorldOf) (events : List Event) (new : WorldOf) (count : ℕ) : Type 0 where
  pub within : count ≤ length events
  pub notes : List Note
  pub plays : PlaysEvents old (take count events) notes new

pub count_of : (done left events : List Event) → done ++ left ≡ events → length events ≡ length done + length left
count_of done left events all = sym (ap length all) ∙ length-append done left

pub stops_at : (old : WorldOf) (events left : List Event) (new : WorldOf) (done : List Event) (notes : List Note) (count : ℕ) → done ++ left ≡ events
    → PlaysEvents old done notes new → count + length left ≡ length events → StopsAt old events new count
stops_at old events left new done notes count all plays many =
    let same : count ≡ length done = omega (arith, count_of done left events all) in
    let front = ap (λ n. take n events) same ∙ ap (take (length done)) (sym all) ∙ take-append_seam done left in
    record {
      within = omega (arith, many);
      notes = notes;
      plays = subst (λ es. PlaysEvents old es notes new) (sym front) plays;
    }

-- the next one is the first of those that are left
pub next_is : (done left events : List Event) (happens : Event) (count : ℕ) → done ++ happens ∷ left ≡ events
    → count + length (happens ∷ left) ≡ length events → slice_get events count ≡ Some happens
next_is done left events happens count all many =
    let same : count ≡ length done = omega (arith, count_of done (happens ∷ left) events all, many) in
    (λ j. slice_get (sym all j) (same j)) ∙ at_seam done
  where
    at_seam : (before : List Event) → slice_get (before ++ happens ∷ left) (length before) ≡ Some happens
    at_seam [] = refl
    at_seam (first ∷ rest) = at_seam rest
