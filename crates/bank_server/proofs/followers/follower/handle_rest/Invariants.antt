use Rattle.std.proofs.Common.{List}
use Rattle.bank_server.specs.FollowerTurns.{TakesTurns, Turn}
use Rattle.bank_server.proofs.followers.follower.handle_rest.Given as goal

-- turns were taken
abbrev pub invariant-loop : goal.invariant-loop
invariant-loop g l = (turns : List Turn) × TakesTurns (record { replica = l.fn.replica; stream = l.fn.stream }) turns
    (record { replica = l.replica; stream = l.stream })
