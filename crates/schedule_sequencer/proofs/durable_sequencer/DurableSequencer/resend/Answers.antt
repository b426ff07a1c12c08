use Rattle.std.proofs.Common.{◌≡◌, ◌-◌, ◌≤◌, Some, List, take, slice_get, sym, ap, ◌∙◌}
use Rattle.sb_frames.specs.declared.frame.Frame.{Frame}
use Rattle.sb_sequencer.specs.Entries.{entries_to_resend}
use Rattle.schedule_sequencer.proofs.Cuts.{recorded_within}
use Rattle.schedule_sequencer.proofs.Entries.{entries_for-take}
use Rattle.schedule_sequencer.proofs.durable_sequencer.DurableSequencer.resend.Goals as goal

pub returns-in-Some : goal.returns-in-Some
returns-in-Some c =
    let s = c.self.inside in
    let replica = c.args.replica in
    let recorded = c.in-Some.recorded in
    let found : Some recorded ≡ slice_get s.sequencer.value.recorded replica =
    sym c.in-Some.is ∙ c.recorded_of.ensures.value ∙ ap (λ t. slice_get t.recorded replica) c.deref-2.ensures in
    let within : recorded ≤ s.log.synced = recorded_within s.log s.sequencer.value s.nodes c.self.invariant replica recorded (sym found) in
    c.truncate.ensures.items
    ∙ ap (λ n. take (n - recorded) c.resend-entries.result.items) c.synced.ensures
    ∙ ap (λ (frames : List Frame). take (s.log.synced - recorded) frames)
    (c.resend-entries.ensures ∙ ap (λ t. entries_to_resend t replica) c.deref.ensures)
    ∙ entries_for-take s.sequencer.value.log s.log.synced recorded _ within found
    ∙ ap (λ d. entries_to_resend d.synced replica) c.self.view_is
