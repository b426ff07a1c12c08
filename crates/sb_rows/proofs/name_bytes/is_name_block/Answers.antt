use Rattle.std.proofs.Common.{refl, w8}
use Rattle.std.proofs.lemmas.Simd.{chunk-fits, length-chunk, splat_is_map, zip2_of_maps, zip2_splat}
use lib.Lanes.{chunk}
use Rattle.sb_rows.specs.Name.{is_name_byte}
use Rattle.sb_rows.proofs.NameBlocks.{all_lanes}
use Rattle.sb_rows.proofs.name_bytes.is_name_block.Goals as goal

pub returns : goal.returns
returns c =
    let v = chunk c.args.at 8 c.args.text.now in
    let long = length-chunk c.args.at 8 c.args.text.now c.requires in
    all_lanes is_name_byte v long (chunk-fits w8 c.args.at 8 c.args.text.now c.type_inv.text) _
    (zip2_of_maps _ _ _ v (zip2_of_maps _ _ _ v
    (zip2_of_maps _ _ _ v (zip2_splat _ v 8 97 long) (splat_is_map v 8 26 long))
    (zip2_of_maps _ _ _ v (zip2_splat _ v 8 48 long) (splat_is_map v 8 10 long))) (zip2_splat _ v 8 95 long)) refl
