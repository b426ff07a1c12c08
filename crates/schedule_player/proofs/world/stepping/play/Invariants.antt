use Rattle.std.proofs.Common.{◌≡◌, ◌≤◌, length, take}
use Rattle.std.specs.Prelude.{vec_capacity}
use Rattle.schedule_player.specs.EventLists.{PlaysEvents}
use Rattle.schedule_player.proofs.world.stepping.play.Given as goal

-- this many events happened, with a note each, and there is room for the others
abbrev pub invariant-loop-done : goal.invariant-loop-done
invariant-loop-done l = record {
  plays : PlaysEvents l.fn.world (take l.done l.events) l.notes.items l.world;
  count : length l.notes.items ≡ l.done;
  room : length l.events ≤ vec_capacity l.notes;
}
