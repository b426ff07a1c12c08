use Rattle.std.proofs.Common.{◌≡◌, ◌+◌, ◌-◌, take, drop}
use Rattle.arrayvec.specs.ArrayVec.{array_vec_len}
use Rattle.sb_sequencer.specs.Entries.{entries}
use Rattle.sb_sequencer.proofs.sequencer.Sequencer.entries_after.Given as goal

abbrev pub invariant-loop-before : goal.invariant-loop-before
invariant-loop-before l = record {
  told : l.entries.items ≡ take (l.before - l.size) (drop l.size (entries l.self.log));
  count : array_vec_len l.entries + l.size ≡ l.before;
}
