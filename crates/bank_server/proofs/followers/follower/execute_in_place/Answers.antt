use Rattle.std.proofs.Common.{subst}
use Rattle.std.specs.Prelude.{IfSome}
use Rattle.std.specs.Result.{result_ok}
use Rattle.bank_server.specs.FollowerTurns.{RunsAll}
use Rattle.bank_server.proofs.boards.FollowerTurns.{runs_all}
use Rattle.bank_server.proofs.followers.follower.execute_in_place.Goals as goal

pub returns-in-Ok : goal.returns-in-Ok
returns-in-Ok c =
    let old = c.args.replica.now in
    let new = c.drain.new.runs in
    subst (λ answer. IfSome (result_ok answer) (λ done. RunsAll old new)) c.in-Ok.is
    (runs_all old new _ _ c.drain.result c.drain.ensures.exchanged c.drain.ensures.rest)
