use Rattle.std.proofs.Common.{◌≡◌, ◌<◌, ◌-◌, ℕ, length, Some, sym, ap, subst, ◌∙◌}
use Rattle.std.specs.Prelude.{IfSome}
use Rattle.sb_calls.specs.Behaviour.{declared_cowns, effect_of}
use Rattle.sb_calls.specs.Cowns.{contents_of}
use Rattle.sb_calls.specs.SerialRun.{reply_by_log}
use Rattle.cown_board.specs.Board.{reply_in}
use Rattle.bank_server.proofs.boards.Boards.{some_reply, told_of}
use Rattle.bank_server.proofs.answers.reply_to.Goals as goal

pub unwrap-requires : goal.unwrap-requires
unwrap-requires g c =
    let board = c.args.replica.now.board in
    let asked : c.from.result ≡ c.args.number = c.from.ensures ∙ c.value.ensures.value in
    some_reply board c.args.number c.reply.result c.requires.idle c.requires.earlier c.idle.ensures.same_length
    c.value.ensures.within.positive c.requires.number (c.reply.ensures.value ∙ ap (reply_in board) asked)

pub returns-clause-value : goal.returns-clause-value
returns-clause-value g c replies tells =
    let board = c.args.replica.now.board in
    let asked : c.from.result ≡ c.args.number = c.from.ensures ∙ c.value.ensures.value in
    sym (told_of board replies c.args.number c.reply.result tells c.idle.ensures.same_length
    c.value.ensures.within.positive (c.reply.ensures.value ∙ ap (reply_in board) asked)
    (subst (λ (n : ℕ). IfSome c.reply.result (λ r. length board.base_replies < n
    → reply_by_log declared_cowns effect_of (contents_of board.opening) board.log (n - length board.base_replies) ≡ Some r)) asked c.reply.ensures.by_log))
    ∙ c.unwrap.ensures
