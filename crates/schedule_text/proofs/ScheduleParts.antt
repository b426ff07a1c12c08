-- A schedule whose parts are read one after another.
use Rattle.std.proofs.Common.{◌≡◌, ℕ, ◌+◌, Result, Ok, Err, List, [], length, drop, sym, ap, subst, ◌∙◌}
use Rattle.sb_rows.specs.Opening.{◌>>=◌, OpeningText, opening_of}
use Rattle.sb_rows.specs.Text.{lines, after_line}
use Rattle.schedule_text.specs.ScheduleReading.{ReadsSchedule}
use Rattle.schedule_text.specs.ScheduleText.{ScheduleOf, below_head, events_from, head_of_lines, in_events, schedule_of}
use Rattle.schedule_text.specs.declared.event.Event.{Event}
use Rattle.schedule_text.specs.declared.fault.ScheduleLineFault.{ScheduleLineFault}
use Rattle.schedule_text.specs.declared.fault.TextFault.{TextFault}
use Rattle.schedule_text.specs.declared.fault.TextFault.TheVariants.{Line, OutOfMemory}
use Rattle.schedule_text.specs.inner.LineFaults.{BlamesLine}

abbrev Read : Type 0 → Type 0
Read A = Result A (ℕ × ScheduleLineFault)

-- the first part's fault is the schedule's
blamed : {A : Type 0} (fault : TextFault) (part : Read A) (others : A → Read ScheduleOf) → BlamesLine fault part
    → ReadsSchedule (Err fault) (part >>= others)
blamed (Line line fault) part others e = ap (λ read. read >>= others) e
blamed OutOfMemory part others e = tt

module _ (text : List ℕ) where
  -- the events, below an opening
  abbrev events_of : OpeningText → Read (List Event)
  events_of opening = in_events (events_from (length opening.names + 3) [] (lines (drop opening.consumed (after_line text))))

  abbrev with_events : ℕ × ℕ → OpeningText → List Event → Read ScheduleOf
  with_events head opening events = Ok (record {
    nodes = head.0;
    workers = head.1;
    names = opening.names;
    balances = opening.balances;
    events = events;
  })

  abbrev below : ℕ × ℕ → Read ScheduleOf
  below head = below_head (opening_of (after_line text)) >>= λ opening. events_of opening >>= with_events head opening

  pub head_refuses : (fault : TextFault) → BlamesLine fault (head_of_lines (lines text)) → ReadsSchedule (Err fault) (schedule_of text)
  head_refuses fault h = blamed fault (head_of_lines (lines text)) below h

  module _ (head : ℕ × ℕ) (is_head : head_of_lines (lines text) ≡ Ok head) where
    below_read : schedule_of text ≡ below head
    below_read = ap (λ read. read >>= below) is_head

    pub opening_refuses : (fault : TextFault) → BlamesLine fault (below_head (opening_of (after_line text))) → ReadsSchedule (Err fault) (schedule_of text)
    opening_refuses fault h =
        subst (ReadsSchedule (Err fault)) (sym below_read)
        (blamed fault (below_head (opening_of (after_line text))) (λ opening. events_of opening >>= with_events head opening) h)

    module _ (opening : OpeningText) (is_opening : opening_of (after_line text) ≡ Ok opening) where
      events_read : schedule_of text ≡ (events_of opening >>= with_events head opening)
      events_read = below_read ∙ ap (λ read. below_head read >>= λ opening. events_of opening >>= with_events head opening) is_opening

      pub events_refuse : (fault : TextFault) → BlamesLine fault (events_of opening) → ReadsSchedule (Err fault) (schedule_of text)
      events_refuse fault h = subst (ReadsSchedule (Err fault)) (sym events_read) (blamed fault (events_of opening) (with_events head opening) h)

      pub accepted : (events : List Event) → events_from (length opening.names + 3) [] (lines (drop opening.consumed (after_line text))) ≡ Ok events
          → schedule_of text ≡ with_events head opening events
      accepted events h = events_read ∙ ap (λ read. in_events read >>= with_events head opening) h
