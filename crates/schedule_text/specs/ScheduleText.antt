-- The meaning of the text of a schedule.
use Rattle.std.specs.Prelude.{ℕ, ◌+◌, nat_le, ◌&&◌, if◌then◌else◌, Option, Some, None, Result, Ok, Err, List, [], ◌∷◌, ◌++◌, length, drop, codes}
use Rattle.std.specs.Str.{bytes_eq}
use Rattle.sb_rows.specs.Balances.{Balances}
use Rattle.sb_rows.specs.Opening.{opening_of, ◌>>=◌, at_line}
use Rattle.sb_rows.specs.Text.{lines, words, after_line}
use Rattle.sb_rows.specs.declared.fault.LineFault.{LineFault}
use Rattle.sb_calls.specs.Ask.{read_number}
use Rattle.sb_calls.specs.declared.nodes.TheConstants.{REPLICAS, WORKERS}
use Rattle.schedule_text.specs.EventText.{event_of}
use Rattle.schedule_text.specs.declared.event.Event.{Event}
use Rattle.schedule_text.specs.declared.fault.EventFault.{EventFault}
use Rattle.schedule_text.specs.declared.fault.ScheduleLineFault.{ScheduleLineFault}
use Rattle.schedule_text.specs.declared.fault.ScheduleLineFault.TheVariants as faults

-- so many replicas with so many workers each, a bank's opening, and the events in order
pub record ScheduleOf : Type 0 where
  pub nodes : ℕ
  pub workers : ℕ
  pub names : List (List ℕ)
  pub balances : Balances
  pub events : List Event

-- ---- the head: `nodes N workers W`, each from 1 to as many as a bank may have

abbrev pub head_with : Option ℕ → Option ℕ → Option (ℕ × ℕ)
head_with (Some nodes) (Some workers) =
    if nat_le 1 nodes && nat_le nodes REPLICAS && nat_le 1 workers && nat_le workers WORKERS
    then Some (nodes, workers) else None
head_with (Some nodes) None = None
head_with None workers = None

abbrev pub head_of_words : List (List ℕ) → Option (ℕ × ℕ)
head_of_words (first ∷ nodes ∷ third ∷ workers ∷ []) =
    if bytes_eq first (codes "nodes") && bytes_eq third (codes "workers")
    then head_with (read_number nodes) (read_number workers) else None
head_of_words [] = None
head_of_words (a ∷ []) = None
head_of_words (a ∷ b ∷ []) = None
head_of_words (a ∷ b ∷ c ∷ []) = None
head_of_words (a ∷ b ∷ c ∷ d ∷ e ∷ more) = None

-- the head that a line says
unfoldable pub head_of : List ℕ → Option (ℕ × ℕ)
head_of line = head_of_words (words line)

-- the head of a text with these lines: the first one
abbrev pub head_or_fault : Option (ℕ × ℕ) → Result (ℕ × ℕ) (ℕ × ScheduleLineFault)
head_or_fault (Some head) = Ok head
head_or_fault None = Err (1, faults.BadHead)

abbrev pub head_of_lines : List (List ℕ) → Result (ℕ × ℕ) (ℕ × ScheduleLineFault)
head_of_lines [] = head_or_fault None
head_of_lines (line ∷ ls) = head_or_fault (head_of line)

-- ---- the whole text

-- a line of the opening at fault; the opening begins at the text's second line
abbrev pub below_head : {A : Type 0} → Result A (ℕ × LineFault) → Result A (ℕ × ScheduleLineFault)
below_head (Ok x) = Ok x
below_head (Err e) = Err (e.0 + 1, faults.Opening e.1)

-- a line of the events at fault
abbrev pub in_events : {A : Type 0} → Result A (ℕ × EventFault) → Result A (ℕ × ScheduleLineFault)
in_events (Ok x) = Ok x
in_events (Err e) = Err (e.0, faults.Event e.1)

-- the events before and those that these lines say, or the first line at fault; the first of these
-- lines has this number
unfoldable pub events_from : ℕ → List Event → List (List ℕ) → Result (List Event) (ℕ × EventFault)
events_from first before [] = Ok before
events_from first before (line ∷ ls) =
    at_line (first + length before) (event_of line) >>= λ event. events_from first (before ++ event ∷ []) ls

-- what a text says, or its first line at fault with its fault
abbrev pub schedule_of : List ℕ → Result ScheduleOf (ℕ × ScheduleLineFault)
schedule_of text = head_of_lines (lines text) >>= λ head.
    (below_head (opening_of (after_line text)) >>= λ opening.
    (in_events (events_from (length opening.names + 3) [] (lines (drop opening.consumed
    (after_line text)))) >>= λ events.
    Ok (record {
      nodes = head.0;
      workers = head.1;
      names = opening.names;
      balances = opening.balances;
      events = events;
    })))
