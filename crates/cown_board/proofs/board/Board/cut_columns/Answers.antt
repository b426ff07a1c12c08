use Rattle.std.proofs.Common.{Some, subst}
use Rattle.cown_board.proofs.JobFinish.{cut_settled}
use Rattle.cown_board.specs.Board.{BoardOf, AreCutColumns}
use Rattle.cown_board.proofs.board.Board.cut_columns.Goals as goal

pub returns-then-cut-eq0-clause-value : goal.returns-then-cut-eq0-clause-value
returns-then-cut-eq0-clause-value g c =
    let touches = g.B.Behaviour.touches in
    let effect = g.B.Behaviour.effect in
    subst (λ (v : BoardOf g.row.B.Denot). AreCutColumns touches effect v (Some c.in-Some.cut.columns)) c.self.view_is
    (cut_settled touches effect c.self.invariant c.in-Some.cut c.in-Some.is c.if-cut-eq0.true)
