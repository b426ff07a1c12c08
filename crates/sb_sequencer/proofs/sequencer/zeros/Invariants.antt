use Rattle.std.proofs.Common.{◌≡◌, replicate}
use Rattle.arrayvec.specs.ArrayVec.{array_vec_len}
use Rattle.sb_sequencer.proofs.sequencer.zeros.Given as goal

abbrev pub invariant-loop : goal.invariant-loop
invariant-loop l = record {
  zeros : l.zeros.items ≡ replicate l.counter 0;
  count : array_vec_len l.zeros ≡ l.counter;
}
