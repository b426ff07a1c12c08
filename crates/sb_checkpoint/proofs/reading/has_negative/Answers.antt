use Rattle.std.proofs.Common.{ltb, ap, ◌∙◌}
use Rattle.sb_checkpoint.specs.Reading.{is_below_zero}
use Rattle.sb_checkpoint.proofs.TestCounts.{count_any}
use Rattle.sb_checkpoint.proofs.reading.has_negative.Goals as goal

pub returns : goal.returns
returns c = ap (ltb 0) c.count_below.ensures ∙ count_any is_below_zero c.args.amounts.now
