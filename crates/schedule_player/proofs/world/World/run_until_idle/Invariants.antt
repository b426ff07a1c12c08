use Rattle.std.proofs.Common.{◌≡◌, ◌≤◌, ◌-◌}
use Rattle.schedule_player.specs.Settling.{after_events, work_events, undone_at}
use Rattle.schedule_player.proofs.world.World.run_until_idle.Given as goal

-- this many of the entries are done
abbrev pub invariant-loop-self : goal.invariant-loop-self
invariant-loop-self l = record {
  after : l.self ≡ after_events l.fn.self (work_events l.replica l.done);
  few : l.done ≤ undone_at l.fn.self l.replica;
}

-- and the others are left
abbrev pub decreases-loop-self : goal.decreases-loop-self
decreases-loop-self l = undone_at l.fn.self l.replica - l.done
