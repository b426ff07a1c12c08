use Rattle.std.proofs.Common.{ap, subst, ◌∙◌, arith}
use Rattle.sb_sequencer.specs.Notes.{IsAnswerNote, after_answer}
use Rattle.sb_sequencer.specs.Sequencer.{SequencerOf}
use Rattle.sb_sequencer.proofs.StoredAnswers.{answered_note, answered_state}
use Rattle.sb_sequencer.proofs.sequencer.Sequencer.on_answer.Goals as goal

pub returns-clause-note : goal.returns-clause-note
returns-clause-note c =
    let s = c.self.inside in
    subst (λ (s : SequencerOf). IsAnswerNote s c.args.number c.args.reply c.store_answer.result) c.self.view_is
    (answered_note s.log s.recorded.items s.checkpoints.items s.answers.items c.in-Some.index c.args.number c.args.reply
    c.self.invariant.answers (omega (arith, c.len.ensures, c.if-index-len.false))
    (omega (arith, c.in-Some.ensures.0, c.in-Some.ensures.1)) c.store_answer.result
    c.store_answer.new.answers.items c.store_answer.ensures.items)

pub returns-clause-state : goal.returns-clause-state
returns-clause-state c =
    let s = c.self.inside in
    answered_state s.log s.recorded.items s.checkpoints.items s.answers.items c.in-Some.index c.args.number c.args.reply
    c.self.invariant.answers (omega (arith, c.len.ensures, c.if-index-len.false))
    (omega (arith, c.in-Some.ensures.0, c.in-Some.ensures.1)) c.store_answer.result
    c.store_answer.new.answers.items c.store_answer.ensures.items
    ∙ ap (λ s. after_answer s c.args.number c.args.reply c.store_answer.result) c.self.view_is
