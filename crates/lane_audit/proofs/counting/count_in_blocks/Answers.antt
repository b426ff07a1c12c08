use Rattle.std.proofs.Common.{◌++◌, [], get_or, take, to_z, of_z, w64, sym, ap, ◌∙◌, subst, ◌%◌, ◌^◌}
use Rattle.std.proofs.lemmas.Int.{to_z-of_z}
use Rattle.std.proofs.lemmas.List.{take_all}
use Rattle.lane_audit.specs.Columns.{count_below}
use Rattle.lane_audit.proofs.Chunks.{joined, joined_more}
use Rattle.lane_audit.proofs.Counts.{CountsAre, CountsAre_none, CountsAre_more, reduce_sum_is}
use Rattle.lane_audit.proofs.counting.count_in_blocks.Goals as goal

pub loop-block-init : goal.loop-block-init
loop-block-init c = CountsAre_none _

pub loop-block-preserved : goal.loop-block-preserved
loop-block-preserved c =
    let blocks = c.args.blocks.now in
    let i = c.loop-block.block-index in
    let inside = c.loop-block-test.true in
    let low = to_z w64 (of_z w64 c.args.low) in
    subst (CountsAre low c.with_counts-counts.result) (joined_more blocks i inside)
    (subst (λ counts. CountsAre low counts (joined (take i blocks) ++ get_or blocks i [])) (sym c.with_counts-counts.ensures)
    (CountsAre_more low c.loop-block.counts (joined (take i blocks)) (get_or blocks i []) (c.told-blocks i inside) c.loop-block.invariant))

pub returns : goal.returns
returns c =
    let blocks = c.args.blocks.now in
    reduce_sum_is _ c.loop-block.counts (joined (take c.loop-block.block-index blocks)) c.loop-block.invariant
    ∙ ap (λ bs. count_below (joined bs) (to_z w64 (of_z w64 c.args.low)) % 2 ^ 64) (take_all c.loop-block.block-index blocks c.loop-block-test.false)
    ∙ ap (λ low. count_below (joined blocks) low % 2 ^ 64) (to_z-of_z w64 c.args.low c.ranges.low)
