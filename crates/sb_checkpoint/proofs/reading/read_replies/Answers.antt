use Rattle.std.proofs.Common.{◌∙◌, arith, inl, inr}
use Rattle.sb_checkpoint.specs.inner.Layouts.{layout_of}
use Rattle.sb_checkpoint.proofs.FaultOrder.{replies_too_long, replies_without_fault}
use Rattle.sb_checkpoint.proofs.reading.read_replies.Goals as goal
use Rattle.sb_checkpoint.proofs.reading.read_replies.Goals.{then-count-gt-LOG_CALLS-via-then-count-gt-LOG_CALLS as too_many, then-count-gt-LOG_CALLS-via-else-count-gt-LOG_CALLS+then-size-bytes as too_long}

pub returns-then-count-gt-LOG_CALLS : goal.returns-then-count-gt-LOG_CALLS
returns-then-count-gt-LOG_CALLS c =
    replies_too_long (layout_of c.args.layout) c.args.bytes.now c.in_ok-replies.replies.items (c.in_ok-replies.ensures.replies ∙ c.reply_cells.ensures)
    (elim c.then-count-gt-LOG_CALLS.branch [ too_many w ↦ inl (omega arith) | too_long w ↦ inr (omega arith) ])

pub returns : goal.returns
returns c =
    let read = c.in_ok-replies.ensures.replies ∙ c.reply_cells.ensures in
    record {
      replies = read;
      fault =
          replies_without_fault (layout_of c.args.layout) c.args.bytes.now c.in_ok-replies.replies.items read (omega arith) (omega arith);
    }
