use Rattle.std.proofs.Common.{◌+◌, Err, [], ◌∷◌, length, sym, ap, ◌∙◌, arith, length-append}
use Rattle.sb_rows.specs.Text.{lines}
use Rattle.schedule_text.specs.ScheduleText.{events_from, in_events}
use Rattle.schedule_text.specs.declared.fault.ScheduleLineFault.TheVariants as faults
use Rattle.schedule_text.proofs.EventLines.{events_from-line, events_from-fault, events_from-end}
use Rattle.schedule_text.proofs.event_text.read_events.Goals as goal

pub returns-in-Err : goal.returns-in-Err
returns-in-Err c =
    let first = c.args.first_line in
    let before = c.loop-line.events in
    ap in_events (sym c.loop-line.invariant.all ∙ ap (events_from first before) c.in-Some.ensures.line)
    ∙ events_from-fault first before c.in-Some.line.now (lines c.in-Some.rest.now) c.in-Err.fault (sym c.in-Err.ensures)
    ∙ ap (λ n. Err (first + n, faults.Event c.in-Err.fault)) (sym c.len.ensures)

pub loop-line-preserved : goal.loop-line-preserved
loop-line-preserved c =
    let first = c.args.first_line in
    let before = c.loop-line.events in
    let more = events_from-line first before c.in-Some.line.now (lines c.in-Some.rest.now) c.in-Ok.event (sym c.in-Ok.ensures) in
    let told = ap length c.in_ok-push-in-Ok.ensures.ok in
    record {
      all =
          ap (λ events. events_from first events (lines c.in-Some.rest.now)) c.in_ok-push-in-Ok.ensures.ok
          ∙ (sym more ∙ (ap (events_from first before) (sym c.in-Some.ensures.line) ∙ c.loop-line.invariant.all));
      room = omega (arith, told, length-append before (c.in-Ok.event ∷ []), c.loop-line.invariant.room, c.in-Some.ensures.shorter);
    }

pub returns : goal.returns
returns c =
    sym c.loop-line.invariant.all
    ∙ (ap (events_from c.args.first_line c.loop-line.events) c.in_default.ensures.line ∙ events_from-end c.args.first_line c.loop-line.events)
