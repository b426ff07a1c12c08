use Rattle.std.proofs.Common.{◌≡◌, ◌≤◌, length, vec_capacity}
use Rattle.cown_board.proofs.ready_list.ReadyList.skip.Given as goal

abbrev pub invariant-loop : goal.invariant-loop
invariant-loop l = record {
  counted : length l.self.behind.items ≡ l.counter;
  room : l.finished ≤ vec_capacity l.self.behind;
  counts : vec_capacity l.self.behind ≡ vec_capacity l.fn.self.behind;
  ready : l.self.ready ≡ l.fn.self.ready;
}
