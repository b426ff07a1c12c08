use Rattle.std.proofs.Common.{[], ◌∷◌, ◌++◌, sym, ap, ◌∙◌}
use Rattle.std.specs.Prelude.{count_by}
use Rattle.schedule_text.specs.inner.ShortEvents.{events_with_calls, has_call}
use Rattle.schedule_text.proofs.ShortEvents.{count-last, count-last_call, events_with_calls-last, events_with_calls-last_call}
use Rattle.schedule_text.proofs.events.Events.push.Goals.{in-Some+in_ok-push, in_default}
use Rattle.schedule_text.proofs.events.Events.push.Goals as goal

pub invariant_of-self-2 : goal.invariant_of-self-2
invariant_of-self-2 c =
    let before = c.self.inside in
    let short = c.push_reserved.ensures.items ∙ ap (λ s. c.match-event_call.self-inside.short.items ++ s ∷ []) c.without_call.ensures in
    ap (count_by has_call) short
    ∙ elim c.match-event_call.branch [
      | in-Some+in_ok-push w ↦
          let some = sym c.event_call.ensures ∙ w.in-Some.is in
          rw (w.self-inside-is, c.in_ok-reserve.ensures.items, w.in_ok-push.ensures.items)
          (count-last_call before.short.items before.calls.items c.args.event w.in-Some.call some c.self.invariant)
      | in_default w ↦
          let none = sym c.event_call.ensures ∙ w.in_default.is in
          rw (w.self-inside-is, c.in_ok-reserve.ensures.items)
          (count-last before.short.items before.calls.items c.args.event none c.self.invariant)
    ]

pub returns-clause-ok : goal.returns-clause-ok
returns-clause-ok c =
    let before = c.self.inside in
    let short = c.push_reserved.ensures.items ∙ ap (λ s. c.match-event_call.self-inside.short.items ++ s ∷ []) c.without_call.ensures in
    ap (λ shorts. events_with_calls shorts c.match-event_call.self-inside.calls.items) short
    ∙ elim c.match-event_call.branch [
      | in-Some+in_ok-push w ↦
          let some = sym c.event_call.ensures ∙ w.in-Some.is in
          rw (w.self-inside-is, c.in_ok-reserve.ensures.items, w.in_ok-push.ensures.items)
          (events_with_calls-last_call before.short.items before.calls.items c.args.event w.in-Some.call some c.self.invariant)
      | in_default w ↦
          let none = sym c.event_call.ensures ∙ w.in_default.is in
          rw (w.self-inside-is, c.in_ok-reserve.ensures.items)
          (events_with_calls-last before.short.items before.calls.items c.args.event none c.self.invariant)
    ]
    ∙ ap (λ events. events ++ c.args.event ∷ []) c.self.view_is
