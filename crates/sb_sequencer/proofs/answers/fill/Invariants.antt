use Rattle.std.proofs.Common.{◌≡◌, vec_len, vec_capacity}
use Rattle.sb_sequencer.specs.inner.Padding.{padded_answers}
use Rattle.sb_sequencer.proofs.answers.fill.Given as goal

abbrev pub invariant-loop : goal.invariant-loop
invariant-loop l = record {
  items : l.answers.items ≡ padded_answers l.counter l.initial.answers.items;
  count : vec_len l.answers ≡ l.counter;
  capacity : vec_capacity l.answers ≡ vec_capacity l.initial.answers;
}
