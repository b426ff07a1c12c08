use Rattle.std.proofs.Common.{◌≡◌, ℕ, ◌+◌, ◌-◌, List, [], length, take, drop, sym, subst, ap, ◌∙◌, arith}
use Rattle.std.proofs.lemmas.List.{length-drop, take_all}
use Rattle.std.proofs.lemmas.Result.{err_from_is_err_and}
use Rattle.sb_rows.specs.Opening.{opening_of}
use Rattle.sb_rows.specs.Text.{lines, after_line}
use Rattle.schedule_text.specs.ScheduleText.{below_head, events_from, in_events}
use Rattle.schedule_text.specs.inner.LineFaults.{BlamesLine}
use Rattle.schedule_text.proofs.ScheduleParts.{head_refuses, opening_refuses, events_refuse, accepted}
use Rattle.schedule_text.proofs.reading.read_schedule.Goals as goal

pub returns-in_err-nodes : goal.returns-in_err-nodes
returns-in_err-nodes c =
    let exit = err_from_is_err_and c.from_residual.result c.from_residual.ensures.1 in
    rw (exit.1, exit.2) (head_refuses c.args.text.now _ c.in_err-nodes.ensures.exact)

pub returns-in_err-opening : goal.returns-in_err-opening
returns-in_err-opening c =
    let exit = err_from_is_err_and c.from_residual-in_err-opening.result c.from_residual-in_err-opening.ensures.1 in
    let head = c.in_ok-nodes.ensures in
    let fault = c.in_err-opening.field-0.0 in
    rw (exit.1, exit.2)
    (opening_refuses c.args.text.now _ head.exact fault
    (subst (λ below. BlamesLine fault (below_head (opening_of below))) head.after c.in_err-opening.ensures.exact))

-- what is left of a text, in bounds
rest : (size : ℕ) (text : List ℕ) → take (length text - size) (drop size text) ≡ drop size text
rest size text = take_all (length text - size) (drop size text) (omega (arith, length-drop size text))

pub returns-in_err-events : goal.returns-in_err-events
returns-in_err-events c =
    let exit = err_from_is_err_and c.from_residual-in_err-events.result c.from_residual-in_err-events.ensures.1 in
    let head = c.in_ok-nodes.ensures in
    let opening = c.in_ok-opening.opening in
    let fault = c.in_err-events.field-0.0 in
    let below = rest opening.consumed c.in_ok-nodes.below.now ∙ ap (drop opening.consumed) head.after in
    let events = subst (λ part. BlamesLine fault (in_events (events_from (c.len-first_line.result + 3) [] (lines part)))) below c.in_err-events.ensures in
    rw (exit.1, exit.2)
    (events_refuse c.args.text.now _ head.exact _ (ap opening_of (sym head.after) ∙ c.in_ok-opening.ensures.exact) fault
    (subst (λ n. BlamesLine fault (in_events (events_from (n + 3) [] (lines (drop opening.consumed (after_line c.args.text.now))))))
    c.len-first_line.ensures.value
    events))

pub returns : goal.returns
returns c =
    let head = c.in_ok-nodes.ensures in
    let opening = c.in_ok-opening.opening in
    let below = rest opening.consumed c.in_ok-nodes.below.now ∙ ap (drop opening.consumed) head.after in
    let first = ap (λ n. events_from (n + 3) [] (lines (drop opening.consumed (after_line c.args.text.now)))) c.len-first_line.ensures.value in
    let text = ap (λ part. events_from (c.len-first_line.result + 3) [] (lines part)) below in
    accepted c.args.text.now _ head.exact _ (ap opening_of (sym head.after) ∙ c.in_ok-opening.ensures.exact) c.in_ok-events.events
    (sym first ∙ sym text ∙ c.in_ok-events.ensures)
