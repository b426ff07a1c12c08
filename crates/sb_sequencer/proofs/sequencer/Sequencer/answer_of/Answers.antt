use Rattle.std.proofs.Common.{Some, None, slice_get, ap, sym, ◌∙◌}
use Rattle.std.specs.Option.{option_flatten}
use Rattle.sb_sequencer.proofs.StoredAnswers.{answer_at}
use Rattle.sb_sequencer.proofs.sequencer.Sequencer.answer_of.Goals as goal

pub returns-in_err-index : goal.returns-in_err-index
returns-in_err-index c =
    let s = c.self.inside in
    c.from_residual.ensures
    ∙ sym (answer_at s.log s.recorded.items s.checkpoints.items s.answers.items c.args.self.now _ None c.self.view_is c.in_err-index.ensures.value)

pub returns : goal.returns
returns c =
    let s = c.self.inside in
    c.stored_answer.ensures ∙ ap (λ answers. option_flatten (slice_get answers c.in_ok-index.index)) c.as_slice.ensures.value
    ∙ sym (answer_at s.log s.recorded.items s.checkpoints.items s.answers.items c.args.self.now _ (Some c.in_ok-index.index) c.self.view_is
    c.in_ok-index.ensures.value)
