use Rattle.std.proofs.Common.{◌≡◌, length, ◌++◌, drop}
use Rattle.sb_calls.specs.Cowns.{AreBelow, contents_of, read_cowns}
use Rattle.sb_calls.proofs.cowns.by_cown.read_cowns.Given as goal

-- what was read, together with what is left to read, is everything
abbrev pub invariant-loop-cown : goal.invariant-loop-cown
invariant-loop-cown l = record {
  told : l.values.items ++ read_cowns (contents_of l.columns) (drop l.cown-index l.cowns) ≡ read_cowns (contents_of l.columns) l.cowns;
  count : length l.values.items ≡ l.cown-index;
  below : AreBelow (length (contents_of l.columns)) (drop l.cown-index l.cowns);
}
