use Rattle.std.proofs.Common.{[], ◌∷◌, ◌++◌, None, ap, sym, ◌∙◌, arith}
use Rattle.sb_sequencer.proofs.Padding.{padded_answers-push}
use Rattle.sb_sequencer.proofs.answers.fill.Goals as goal

pub loop-preserved : goal.loop-preserved
loop-preserved c = record {
  items = c.push_reserved.ensures.items ∙ ap (λ items. items ++ None ∷ []) c.loop.invariant.items
      ∙ sym (padded_answers-push c.loop.counter c.args.answers.now.items (omega (arith, c.loop.auto.counter, c.len-counter.ensures)));
  count = omega (arith, c.push_reserved.ensures.len, c.loop.invariant.count);
  capacity = c.push_reserved.ensures.capacity ∙ c.loop.invariant.capacity;
}
