use Rattle.std.proofs.Common.{◌==◌, length, sym, ap, ◌∙◌}
use Rattle.schedule_text.proofs.ShortEvents.{length-events_with_calls}
use Rattle.schedule_text.proofs.events.Events.is_empty.Goals as goal

pub returns : goal.returns
returns c =
    c.is_empty.ensures
    ∙ ap (λ n. n == 0)
    (c.self.inside.short.ok.0
    ∙ sym (length-events_with_calls c.self.inside.short.items c.self.inside.calls.items c.self.invariant)
    ∙ ap length c.self.view_is)
