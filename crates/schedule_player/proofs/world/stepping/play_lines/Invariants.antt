use Rattle.std.proofs.Common.{length}
use Rattle.schedule_player.proofs.events.PlayedLines.{PlaysUpTo}
use Rattle.schedule_player.proofs.world.stepping.play_lines.Given as goal

-- the events before those that are left happened, and their lines are written
abbrev pub invariant-loop-event : goal.invariant-loop-event
invariant-loop-event l = PlaysUpTo l.fn.world l.events l.left l.world l.fn.out.items l.out.items

abbrev pub decreases-loop-event : goal.decreases-loop-event
decreases-loop-event l = length l.left
