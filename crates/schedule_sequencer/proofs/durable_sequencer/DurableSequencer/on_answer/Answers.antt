use Rattle.std.proofs.Common.{sym, ap, subst, ◌∙◌, arith, ◌≤◌}
use Rattle.sb_sequencer.specs.Notes.{IsAnswerNote, after_answer}
use Rattle.sb_sequencer.specs.Sequencer.{SequencerOf}
use Rattle.schedule_sequencer.specs.DurableSequencer.{DurableSequencerOf}
use Rattle.schedule_sequencer.specs.inner.Views.{IsDurableSequencer, cut_at}
use Rattle.schedule_sequencer.proofs.Cuts.{answered, answer-cut, note-cut}
use Rattle.schedule_sequencer.proofs.durable_sequencer.DurableSequencer.on_answer.Goals as goal

-- the note on the whole sequencer
noted : (c : goal.After-self-1) → IsAnswerNote c.self.inside.sequencer.value c.args.number c.args.reply c.on_answer.result
noted c = subst (λ (s : SequencerOf). IsAnswerNote s c.args.number c.args.reply c.on_answer.result) c.deref_mut.ensures.value c.on_answer.ensures.note

pub invariant_of-self : goal.invariant_of-self
invariant_of-self c =
    let s = c.self.inside in
    let within : c.args.number ≤ s.log.synced = omega (arith, c.synced.ensures, c.if-number-synced.false) in
    let new = c.on_answer.ensures.state ∙ ap (λ s. after_answer s c.args.number c.args.reply c.on_answer.result) c.deref_mut.ensures.value in
    subst (λ (t : SequencerOf). IsDurableSequencer s.log t s.nodes) (sym new)
    (answered s.log s.sequencer.value s.nodes c.args.number c.args.reply c.self.invariant c.on_answer.result within (noted c))

pub returns-clause-note : goal.returns-clause-note
returns-clause-note c =
    let s = c.self.inside in
    let within : c.args.number ≤ s.log.synced = omega (arith, c.synced.ensures, c.if-number-synced.false) in
    subst (λ (d : DurableSequencerOf). IsAnswerNote d.synced c.args.number c.args.reply c.on_answer.result) c.self.view_is
    (note-cut s.log.synced s.sequencer.value c.args.number c.args.reply c.on_answer.result within (noted c))

pub returns-clause-state : goal.returns-clause-state
returns-clause-state c =
    let s = c.self.inside in
    let new = c.on_answer.ensures.state ∙ ap (λ s. after_answer s c.args.number c.args.reply c.on_answer.result) c.deref_mut.ensures.value in
    ap (cut_at s.log.synced) new
    ∙ answer-cut s.log.synced s.sequencer.value c.args.number c.args.reply c.on_answer.result
    ∙ ap (λ (d : DurableSequencerOf). record d { synced = after_answer d.synced c.args.number c.args.reply c.on_answer.result }) c.self.view_is
