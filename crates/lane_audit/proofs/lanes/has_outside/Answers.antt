use Rattle.std.proofs.Common.{take, drop, arith}
use Rattle.std.proofs.lemmas.Simd.{length-chunk}
use Rattle.lane_audit.specs.Columns.{is_outside}
use Rattle.lane_audit.proofs.LaneBits.{any_mask, outside_lanes, fits_block}
use Rattle.lane_audit.proofs.lanes.has_outside.Goals as goal

pub returns : goal.returns
returns c =
    let long = length-chunk c.args.at 8 c.args.values.now c.requires.room in
    any_mask (is_outside c.args.low c.args.high) (take 8 (drop c.args.at c.args.values.now)) (omega (arith, long))
    (outside_lanes c.args.low c.ranges.low c.args.high c.ranges.high _ 8 long (fits_block c.args.at 8 c.args.values.now c.requires.fits))
