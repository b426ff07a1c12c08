-- What the law says of the exchanges by which the board is drained.
use Rattle.running_tests.proofs.traces.drain_traced.Goals as goal

pub returns-clause-exchanged : goal.returns-clause-exchanged
returns-clause-exchanged g c =
    let (steps, (along, board)) = c.drain.ensures.exchanged in
    (steps, (c.notices_of_exchanges.ensures _ _ steps c.requires along, board))
