use Rattle.std.proofs.Common.{◌≡◌, length, drop}
use Rattle.sb_calls.specs.Cowns.{AreBelow, AreCownValues, contents_of, write_cowns}
use Rattle.sb_calls.proofs.cowns.by_cown.write_cowns.Given as goal

-- writing the rest leads to the same as writing everything
abbrev pub invariant-loop-position : goal.invariant-loop-position
invariant-loop-position l = record {
  told : write_cowns (contents_of l.columns) (drop l.position l.cowns) (drop l.position l.values) ≡ write_cowns (contents_of l.fn.columns) l.cowns l.values;
  below : AreBelow (length (contents_of l.columns)) (drop l.position l.cowns);
  fits : AreCownValues (drop l.position l.cowns) (drop l.position l.values);
  long : length l.values ≡ length l.cowns;
}
