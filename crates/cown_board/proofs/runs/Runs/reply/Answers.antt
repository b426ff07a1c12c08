use Rattle.std.proofs.Common.{sym, subst, IfSome}
use Rattle.std.specs.List.{All}
use Rattle.sb_calls.proofs.CownContents.{IsContents-balances}
use Rattle.sb_calls.specs.Replies.{IsReply}
use Rattle.sb_calls.specs.declared.op.Op.{Op}
use Rattle.cown_board.proofs.BoardReplies.{IsByLog, held_reply}
use Rattle.cown_board.specs.Board.{BoardOf}
use Rattle.cown_board.proofs.runs.Runs.reply.Goals as goal

pub returns-clause-valid : goal.returns-clause-valid
returns-clause-valid g c = λ base.
    let board = c.board-board.result.now in
    subst (λ o. IfSome o IsReply) (sym c.reply.ensures.value)
    (held_reply board c.args.number (subst (λ (b : BoardOf Op). All IsReply b.base_replies) (sym c.board-board.ensures.value) base)
    (IsContents-balances board.opening c.length.ensures.bank)
    (subst (λ o. IfSome o (IsByLog board c.args.number)) c.reply.ensures.value c.reply.ensures.by_log))
