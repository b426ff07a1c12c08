use Rattle.std.proofs.Common.{refl}
use Rattle.sb_calls.proofs.CownContents.{length-AreCownValues}
use Rattle.sb_calls.proofs.cowns.by_cown.write_cowns.Goals as goal

pub loop-position-init : goal.loop-position-init
loop-position-init c = record {
  told = refl;
  below = c.requires.cowns;
  fits = c.requires.values;
  long = length-AreCownValues c.args.cowns.now c.args.values.now c.requires.values;
}
