-- The meaning of lines of events, one line at a time.
use Rattle.std.proofs.Common.{◌≡◌, ℕ, ◌+◌, Ok, Err, List, [], ◌∷◌, ◌++◌, length, refl, ap}
use Rattle.sb_rows.specs.Opening.{◌>>=◌, at_line}
use Rattle.schedule_text.specs.EventText.{event_of}
use Rattle.schedule_text.specs.ScheduleText.{events_from, in_events}
use Rattle.schedule_text.specs.declared.event.Event.{Event}
use Rattle.schedule_text.specs.declared.fault.EventFault.{EventFault}
use Rattle.schedule_text.specs.declared.fault.ScheduleLineFault.TheVariants as faults

-- a line without a fault is the last event so far
pub events_from-line : (first : ℕ) (before : List Event) (line : List ℕ) (ls : List (List ℕ)) (event : Event) → event_of line ≡ Ok event
    → events_from first before (line ∷ ls) ≡ events_from first (before ++ event ∷ []) ls
unfolding events_from
events_from-line first before line ls event e = ap (λ r. at_line (first + length before) r >>= λ a. events_from first (before ++ a ∷ []) ls) e

-- a line at fault ends the reading
pub events_from-fault : (first : ℕ) (before : List Event) (line : List ℕ) (ls : List (List ℕ)) (fault : EventFault) → event_of line ≡ Err fault
    → in_events (events_from first before (line ∷ ls)) ≡ Err (first + length before, faults.Event fault)
unfolding events_from
events_from-fault first before line ls fault e =
    ap (λ r. in_events (at_line (first + length before) r >>= λ a. events_from first (before ++ a ∷ []) ls)) e

-- with no line left, the events before are all
pub events_from-end : (first : ℕ) (before : List Event) → events_from first before [] ≡ Ok before
unfolding events_from
events_from-end first before = refl
