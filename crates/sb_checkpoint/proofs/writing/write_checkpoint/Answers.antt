use Rattle.std.proofs.Common.{refl, sym, subst, ap, ◌∙◌, arith}
use Rattle.std.specs.Int.{w64}
use Rattle.std.proofs.lemmas.Int.{to_z-of_z}
use Rattle.sb_calls.specs.Replies.{reply_field}
use Rattle.sb_checkpoint.specs.Checkpoint.{Second, SpellsInLayout}
use Rattle.sb_checkpoint.specs.Drafts.{DraftOf}
use Rattle.sb_checkpoint.proofs.FieldLists.{one_more, all_there}
use Rattle.sb_checkpoint.proofs.writing.write_checkpoint.Goals as goal

pub loop-reply-preserved : goal.loop-reply-preserved
loop-reply-preserved c = record {
  bytes = one_more reply_field c.args.replies.now c.loop-reply.reply-index c.in_ok-draft.draft.bytes _ _ _ c.loop-reply-test.true
      c.loop-reply.invariant.bytes (ap (λ (d : DraftOf). d.bytes) c.push.ensures);
  missing = omega (arith, c.loop-reply.invariant.missing, ap (λ (d : DraftOf). d.missing) c.push.ensures, c.loop-reply-test.true);
}

pub returns : goal.returns
returns c =
    let replies = c.args.replies.now in
    let whole = all_there reply_field replies c.loop-reply.reply-index c.in_ok-draft.draft.bytes _ c.loop-reply-test.false c.loop-reply.invariant.bytes in
    let columns = c.args.columns.now in
    subst (λ t. SpellsInLayout Second t (record { columns = columns; replies = replies }) c.finish.result.items) (to_z-of_z w64 _ c.ranges.opening_total)
    (subst (SpellsInLayout Second _ (record { columns = columns; replies = replies })) (sym (c.finish.ensures ∙ whole))
    (c.in_ok-draft.ensures.begins replies refl c.requires.replies))
