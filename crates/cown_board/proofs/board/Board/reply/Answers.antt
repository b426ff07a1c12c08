use Rattle.std.proofs.Common.{◌≡◌, ◌≤◌, ◌<◌, ◌-◌, Option, Some, None, length, refl, sym, ap, ◌∙◌, subst, arith}
use Rattle.std.specs.Prelude.{slice_get, IfSome}
use Rattle.std.proofs.lemmas.Option.{slice_get_read}
use Rattle.sb_calls.specs.Cowns.{contents_of}
use Rattle.sb_calls.specs.SerialRun.{reply_by_log}
use Rattle.sb_calls.specs.declared.reply.Reply.{Reply}
use Rattle.cown_board.proofs.Replies.{no_number, number_before, past_numbers, reply_at_place, reply_is_by_log}
use Rattle.cown_board.proofs.JobTake.{seen}
use Rattle.cown_board.specs.Board.{BoardOf, reply_in}
use Rattle.cown_board.specs.State.{finished_reply}
use Rattle.cown_board.proofs.board.Board.reply.Goals as goal

pub returns-in_err-position-clause-value : goal.returns-in_err-position-clause-value
returns-in_err-position-clause-value g c = c.from_residual.ensures ∙ no_number c.args.self.now c.args.number c.in_err-position.ensures

pub returns-then-number-self-clause-value : goal.returns-then-number-self-clause-value
returns-then-number-self-clause-value g c =
    let board = c.self.invariant in
    let base_replies = c.self.inside.base_replies.items in
    let position = c.in_ok-position.position in
    let some : 1 ≤ c.args.number = c.in_ok-position.ensures.0 in
    let is_before : position ≡ c.args.number - 1 = c.in_ok-position.ensures.1 in
    let here : slice_get base_replies position ≡ Some c.index.result.now =
    slice_get_read base_replies (length base_replies) position c.index.result.now refl
    (omega (arith, some, is_before, c.if-number-self.true, board.base_length)) c.index.ensures in
    subst (λ (v : BoardOf g.row.B.Denot). ◌≡◌ {A = Option Reply} (Some c.index.result.now) (reply_in v c.args.number)) c.self.view_is
    (sym here ∙ ap (slice_get base_replies) is_before
    ∙ number_before (seen g.B.Behaviour.touches g.B.Behaviour.effect board) c.args.number some (omega (arith, c.if-number-self.true, board.base_length)))

pub returns-in_err-position-2-clause-value : goal.returns-in_err-position-2-clause-value
returns-in_err-position-2-clause-value g c =
    let board = c.self.invariant in
    c.from_residual-in_err-position-2.ensures
    ∙ subst (λ (v : BoardOf g.row.B.Denot). None ≡ reply_in v c.args.number) c.self.view_is
    (past_numbers (seen g.B.Behaviour.touches g.B.Behaviour.effect board) c.args.number (λ le. omega (arith, le, board.base_length, c.if-number-self.false))
    (λ position lt same. c.in_err-position-2.ensures position (omega (arith, lt, c.len.ensures, c.self.inside.log.ok, board.keeps.same_length))
    (omega (arith, same, board.base_length))))

pub returns-clause-value : goal.returns-clause-value
returns-clause-value g c =
    let board = c.self.invariant in
    let states = c.self.inside.states.items in
    let state : slice_get states c.in_ok-position-2.position ≡ Some c.index-2.result.now =
    slice_get_read states (length states) c.in_ok-position-2.position c.index-2.result.now refl
    (omega (arith, c.in_ok-position-2.ensures.0, c.len.ensures, c.self.inside.log.ok, board.keeps.same_length)) c.index-2.ensures in
    c.final_reply.ensures
    ∙ subst (λ (v : BoardOf g.row.B.Denot). finished_reply c.index-2.result.now ≡ reply_in v c.args.number) c.self.view_is
    (reply_at_place (seen g.B.Behaviour.touches g.B.Behaviour.effect board) c.args.number c.in_ok-position-2.position c.index-2.result.now
    (omega (arith, c.in_ok-position-2.ensures.1, board.base_length)) state)

pub returns-clause-by_log : goal.returns-clause-by_log
returns-clause-by_log g c =
    let touches = g.B.Behaviour.touches in
    let effect = g.B.Behaviour.effect in
    let board = c.self.invariant in
    let states = c.self.inside.states.items in
    let state : slice_get states c.in_ok-position-2.position ≡ Some c.index-2.result.now =
    slice_get_read states (length states) c.in_ok-position-2.position c.index-2.result.now refl
    (omega (arith, c.in_ok-position-2.ensures.0, c.len.ensures, c.self.inside.log.ok, board.keeps.same_length)) c.index-2.ensures in
    subst (λ (v : BoardOf g.row.B.Denot). IfSome c.final_reply.result
    (λ reply. length v.base_replies < c.args.number
    → reply_by_log touches effect (contents_of v.opening) v.log (c.args.number - length v.base_replies) ≡ Some reply)) c.self.view_is
    (reply_is_by_log touches effect board c.args.number c.in_ok-position-2.position c.index-2.result.now c.final_reply.result c.in_ok-position-2.ensures.1 state
    c.final_reply.ensures)
