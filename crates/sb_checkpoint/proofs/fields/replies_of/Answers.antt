use Rattle.std.proofs.Common.{map, sym, ap, ◌∙◌, arith}
use Rattle.std.proofs.lemmas.List.{take_all}
use Rattle.std.proofs.lemmas.Result.{err_from_is_err_and}
use Rattle.sb_checkpoint.specs.Reading.{stated_reply}
use Rattle.sb_checkpoint.proofs.FaultOrder.{bad_reply, no_reply_at}
use Rattle.sb_checkpoint.proofs.FieldLists.{one_more_read}
use Rattle.sb_checkpoint.proofs.fields.replies_of.Goals as goal

pub returns-in_err-replies : goal.returns-in_err-replies
returns-in_err-replies c =
    let p = err_from_is_err_and c.from_residual.result c.from_residual.ensures.1 in
    rw (p.1, p.2) (record { replies = tt; fault = tt })

pub returns-in_default : goal.returns-in_default
returns-in_default c = record {
  replies = tt;
  fault = ap bad_reply
      (no_reply_at c.args.cells.now c.loop-cell.cell-index c.loop-cell-test.true (sym c.in_default.is ∙ c.read_reply.ensures));
}

pub loop-cell-preserved : goal.loop-cell-preserved
loop-cell-preserved c = record {
  replies = one_more_read c.args.cells.now c.loop-cell.cell-index c.loop-cell.replies.items _ c.in-Some.reply c.loop-cell-test.true
      c.loop-cell.invariant.replies c.push_reserved.ensures.items (sym c.read_reply.ensures ∙ c.in-Some.is);
  count = omega (arith, c.loop-cell.invariant.count, c.push_reserved.ensures.len);
  room = omega (arith, c.loop-cell.invariant.room, c.push_reserved.ensures.capacity);
}

pub returns : goal.returns
returns c = record {
  replies = c.loop-cell.invariant.replies ∙ ap (map stated_reply) (take_all c.loop-cell.cell-index c.args.cells.now c.loop-cell-test.false);
  fault = tt;
}
