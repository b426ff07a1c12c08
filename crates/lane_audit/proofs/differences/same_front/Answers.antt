use Rattle.std.proofs.Common.{arith}
use Rattle.lane_audit.proofs.Positions.{same_block_more}
use Rattle.lane_audit.proofs.differences.same_front.Goals as goal

pub loop-at-preserved : goal.loop-at-preserved
loop-at-preserved c = (
  omega arith,
  same_block_more c.args.left.now c.args.right.now c.loop-at.at c.loop-at.invariant.1 (c.is_same_block.ensures.0 c.if-is_same_block.true),
)
