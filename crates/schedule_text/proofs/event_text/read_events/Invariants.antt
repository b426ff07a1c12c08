use Rattle.std.proofs.Common.{◌≡◌, ◌+◌, ◌≤◌, [], length}
use Rattle.sb_rows.specs.Text.{lines}
use Rattle.schedule_text.specs.ScheduleText.{events_from}
use Rattle.schedule_text.proofs.event_text.read_events.Given as goal

-- the events so far and those of what is left make up all
abbrev pub invariant-loop-line : goal.invariant-loop-line
invariant-loop-line l = record {
  all : events_from l.first_line l.events (lines l.left) ≡ events_from l.first_line [] (lines l.text);
  room : length l.events + length l.left ≤ length l.text;
}

abbrev pub decreases-loop-line : goal.decreases-loop-line
decreases-loop-line l = length l.left
