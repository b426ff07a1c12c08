use Rattle.std.proofs.Common.{◌∙◌}
use Rattle.lane_audit.proofs.LaneBits.{added_lanes}
use Rattle.lane_audit.proofs.Totals.{added_exactly}
use Rattle.lane_audit.proofs.lanes.with_block.Goals as goal

pub returns : goal.returns
returns c = added_lanes c.args.sums c.args.block.now ∙ added_exactly c.args.sums c.args.block.now c.requires
