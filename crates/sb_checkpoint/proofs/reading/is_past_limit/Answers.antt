use Rattle.std.proofs.Common.{pos, ap, ◌∙◌}
use Rattle.std.specs.Option.{is_some}
use Rattle.sb_checkpoint.specs.Reading as spec
use Rattle.sb_checkpoint.proofs.TestCounts.{position_any}
use Rattle.sb_checkpoint.proofs.reading.is_past_limit.Goals as goal

pub returns : goal.returns
returns c = c.is_some.ensures ∙ ap is_some c.first_outside.ensures ∙ position_any spec.is_past_limit c.args.amounts.now (pos 0)
