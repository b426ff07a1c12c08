use Rattle.std.proofs.Common.{length, sym, ap, ◌∙◌}
use Rattle.schedule_text.proofs.ShortEvents.{length-events_with_calls}
use Rattle.schedule_text.proofs.events.EventWalk.len.Goals as goal

pub returns : goal.returns
returns c =
    sym (length-events_with_calls c.self.inside.short.now c.self.inside.calls.now c.self.invariant) ∙ ap length c.self.view_is
