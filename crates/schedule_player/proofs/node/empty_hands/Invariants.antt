use Rattle.std.proofs.Common.{◌≡◌, ◌≤◌, None, replicate}
use Rattle.std.specs.Prelude.{vec_capacity}
use Rattle.schedule_player.proofs.node.empty_hands.Given as goal

abbrev pub invariant-loop : goal.invariant-loop
invariant-loop l = record {
  empty : l.hands.items ≡ replicate l.counter None;
  room : l.workers ≤ vec_capacity l.hands;
}
