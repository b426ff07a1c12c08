use Rattle.lane_audit.proofs.LaneBits.{counted_lanes, fits_each}
use Rattle.lane_audit.proofs.lanes.with_counts.Goals as goal

pub returns : goal.returns
returns c = counted_lanes c.args.low c.ranges.low c.args.counts c.args.block.now 8 c.told-block (fits_each c.args.block.now c.requires)
