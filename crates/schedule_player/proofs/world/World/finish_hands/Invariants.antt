use Rattle.std.proofs.Common.{◌≡◌}
use Rattle.schedule_player.specs.Settling.{after_events, finish_events}
use Rattle.schedule_player.proofs.world.World.finish_hands.Given as goal

-- this many hands are emptied
abbrev pub invariant-loop-worker : goal.invariant-loop-worker
invariant-loop-worker l = l.self ≡ after_events l.fn.self (finish_events l.replica l.worker)
