use Rattle.std.proofs.Common.{◌≡◌, ◌+◌, ◌≤◌, ◌⊎◌, inl, inr, [], ◌∷◌, ◌++◌, length, ap, sym, ◌∙◌, arith}
use Rattle.std.proofs.lemmas.Bool.{cases_lt}
use Rattle.sb_sequencer.proofs.Entries.{take_entries-push, take_entries-all}
use Rattle.sb_sequencer.proofs.sequencer.Sequencer.entries_after.Goals as goal

pub loop-before-preserved : goal.loop-before-preserved
loop-before-preserved c = record {
  told =
      c.push.ensures.items ∙ ap (λ xs. xs ++ c.unwrap.result ∷ []) c.loop-before.invariant.told
      ∙ sym (take_entries-push c.args.self.now.log c.args.size c.loop-before.before c.unwrap.result c.loop-before.auto.before
      (sym c.entry.ensures ∙ c.unwrap.ensures));
  count = omega (arith, c.push.ensures.len, c.loop-before.invariant.count);
}

pub returns : goal.returns
returns c =
    let log = c.args.self.now.log in
    let length_is = c.length.ensures.value in
    let end = c.min-end.ensures in
    let at : c.loop-before.before ≡ c.min-end.result =
    omega (arith, c.requires, length_is, end, c.loop-before-test.false, c.loop-before.auto.before-end (omega (arith, c.requires, length_is, end))) in
    let short : (c.args.size + 16 ≤ c.loop-before.before) ⊎ (length log ≤ c.loop-before.before) = elim (cases_lt (length log) (c.args.size + 16)) [
      | inl l ↦ inr (omega (arith, length_is, end, at, l))
      | inr l ↦ inl (omega (arith, length_is, end, at, l))
    ] in
    c.loop-before.invariant.told
    ∙ take_entries-all log c.args.size c.loop-before.before (omega (arith, length_is, end, at)) (omega (arith, length_is, end, at)) short
