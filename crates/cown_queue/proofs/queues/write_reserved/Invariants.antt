use Rattle.std.proofs.Common.{◌≡◌, ◌≤◌, length, take}
use Rattle.std.specs.Prelude.{vec_len, vec_capacity}
use Rattle.cown_queue.proofs.queues.write_reserved.Given as goal

abbrev pub invariant-loop-cown : goal.invariant-loop-cown
invariant-loop-cown l = record {
  written : l.written.items ≡ take l.cown-index l.cowns;
  count : vec_len l.written ≡ l.cown-index;
  room : length l.cowns ≤ vec_capacity l.written;
}
