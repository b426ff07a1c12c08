use Rattle.std.proofs.Common.{arith, sym, ◌∙◌, of_z, to_z, w64}
use Rattle.lane_audit.specs.Columns.{is_outside}
use Rattle.lane_audit.proofs.Positions.{failing_block_more}
use Rattle.lane_audit.proofs.ranges.inside_front.Goals as goal

pub loop-at-preserved : goal.loop-at-preserved
loop-at-preserved c = (
  omega arith,
  failing_block_more (is_outside (to_z w64 (of_z w64 c.args.low)) (to_z w64 (of_z w64 c.args.high))) c.args.values.now c.loop-at.at
      (omega arith) c.loop-at.invariant.1
      (sym c.has_outside.ensures ∙ c.if-not-has_outside.true),
)
