use Rattle.std.proofs.Common.{◌≡◌, sym, ◌∙◌, subst}
use Rattle.cown_board.proofs.JobFinish.{after_all}
use Rattle.cown_board.specs.Board.{BoardOf, unfinished_of, IsAfterAll}
use Rattle.cown_board.proofs.board.Board.final_columns.Goals as goal

pub returns-then-idle-clause-value : goal.returns-then-idle-clause-value
returns-then-idle-clause-value g c =
    let touches = g.B.Behaviour.touches in
    let effect = g.B.Behaviour.effect in
    let board = c.self.invariant in
    let idle : unfinished_of c.args.self.now ≡ 0 = c.idle.ensures.value.0 c.if-idle.true in
    let inside : c.self.inside.unfinished ≡ 0 = board.unfinished ∙ subst (λ (v : BoardOf g.row.B.Denot). unfinished_of v ≡ 0) (sym c.self.view_is) idle in (
      idle,
      subst (λ (v : BoardOf g.row.B.Denot). IsAfterAll touches effect v c.self.inside.columns) c.self.view_is
          (after_all touches effect board inside),
    )
