use Rattle.std.proofs.lemmas.Simd.{length-chunk}
use Rattle.lane_audit.proofs.LaneBits.{fits_block, same_block}
use Rattle.lane_audit.proofs.lanes.is_same_block.Goals as goal

pub returns : goal.returns
returns c =
    same_block _ _ (length-chunk c.args.at 8 c.args.left.now c.requires.left) (length-chunk c.args.at 8 c.args.right.now c.requires.right)
    (fits_block c.args.at 8 c.args.left.now c.requires.left_fits) (fits_block c.args.at 8 c.args.right.now c.requires.right_fits)
