use Rattle.std.proofs.Common.{ap, ◌∙◌}
use Rattle.sb_calls.specs.declared.ask.Key.{Key}
use Rattle.sb_sequencer.specs.Notes.{answer_of}
use Rattle.schedule_sequencer.proofs.Cuts.{answer_of-cut}
use Rattle.schedule_sequencer.proofs.durable_sequencer.DurableSequencer.answer_of.Goals as goal

pub returns : goal.returns
returns c =
    let s = c.self.inside in
    let key : Key = record { client = c.args.client; request = c.args.request } in
    c.answer_of.ensures ∙ ap (λ t. answer_of t key) c.deref.ensures
    ∙ answer_of-cut s.log.synced s.sequencer.value key c.self.invariant.synced c.self.invariant.whole
    ∙ ap (λ t. answer_of t.synced key) c.self.view_is
