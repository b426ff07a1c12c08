use Rattle.bank_server.proofs.boards.Boards.{idle_none_out}
use Rattle.bank_server.proofs.boards.NodeTurns.{drains_on}
use Rattle.bank_server.proofs.node0.execution.execute_unfinished.Goals as goal

pub returns-in-Ok-clause-none_out : goal.returns-in-Ok-clause-none_out
returns-in-Ok-clause-none_out g c = λ e none. idle_none_out c.drain.new.runs.board c.in-Ok.ensures.ok

pub returns-in-Ok-clause-turns : goal.returns-in-Ok-clause-turns
returns-in-Ok-clause-turns g c log =
    drains_on log _ c.args.replica.now c.drain.new.runs _ _ c.drain.result c.drain.ensures.exchanged c.drain.ensures.rest

pub returns-in-Err-clause-turns : goal.returns-in-Err-clause-turns
returns-in-Err-clause-turns g c log =
    drains_on log _ c.args.replica.now c.drain.new.runs _ _ c.drain.result c.drain.ensures.exchanged c.drain.ensures.rest
