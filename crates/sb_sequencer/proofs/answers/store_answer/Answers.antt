use Rattle.std.proofs.Common.{◌<◌, [], ◌∷◌, ◌++◌, length, slice_set, Some, None, ap, ◌∙◌, arith}
use Rattle.sb_sequencer.proofs.Padding.{storing_first, storing_again, storing_compared}
use Rattle.sb_sequencer.proofs.answers.store_answer.Goals as goal

-- nothing was kept that far up
pub returns-then-len-slot-clause-items : goal.returns-then-len-slot-clause-items
returns-then-len-slot-clause-items c =
    let first = storing_first c.args.slot c.args.answers.now.items (Some c.args.reply) (omega (arith, c.len.ensures, c.if-len-slot.true)) in
    (first.0, c.push_reserved.ensures.items ∙ ap (λ xs. xs ++ Some c.args.reply ∷ []) c.fill.ensures.items ∙ first.1)

pub returns-in-None-clause-items : goal.returns-in-None-clause-items
returns-in-None-clause-items c =
    let within : c.args.slot < length c.args.answers.now.items = omega (arith, c.len.ensures, c.if-len-slot.false) in
    let again = storing_again c.args.slot c.args.answers.now.items c.index.result.now None within c.index.ensures c.in-None.is in
    (again.0, ap (λ xs. slice_set xs c.args.slot (Some c.args.reply)) again.1)

pub returns-in-Some-clause-items : goal.returns-in-Some-clause-items
returns-in-Some-clause-items c =
    let within : c.args.slot < length c.args.answers.now.items = omega (arith, c.len.ensures, c.if-len-slot.false) in
    storing_compared c.args.slot c.args.answers.now.items c.in-Some.first c.args.reply c.compare_answers.result
    (storing_again c.args.slot c.args.answers.now.items c.index.result.now (Some c.in-Some.first) within c.index.ensures c.in-Some.is)
    c.compare_answers.ensures
