use Rattle.std.proofs.Common.{subst}
use Rattle.cown_board.specs.BoardCalls.{MakesCut}
use Rattle.sb_replica.specs.Replica.{ReplicaOf}
use Rattle.sb_replica.proofs.replica.Replica.cut.Goals as goal

pub returns-clause-made : goal.returns-clause-made
returns-clause-made g c =
    subst (λ (r : ReplicaOf g.row.S.Denot). MakesCut r.board c.cut.result c.cut.new.self) c.self.view_is
    (subst (λ inside. MakesCut inside.log.board c.cut.result c.cut.new.self) c.self-inside.view_is c.cut.ensures.made)
