use Rattle.std.proofs.Common.{[], get_or, map, take, to_z, of_z, w64, ap, ◌∙◌, subst, ◌+◌, ◌%◌, ◌^◌, arith}
use Rattle.std.proofs.lemmas.List.{take_all}
use Rattle.lane_audit.specs.Columns.{total}
use Rattle.lane_audit.proofs.Chunks.{joined, joined_more}
use Rattle.lane_audit.proofs.Totals.{BitsAre, BitsAre_none, BitsAre_more, bits_fit, reduce_sum_is}
use Rattle.lane_audit.proofs.summing.sum_of_blocks.Goals as goal
use lib.Lanes.{fold_l}

pub loop-block-init : goal.loop-block-init
loop-block-init c = BitsAre_none

pub with_block-sums-requires : goal.with_block-sums-requires
with_block-sums-requires c =
    let blocks = c.args.blocks.now in
    let i = c.loop-block.block-index in
    let inside = c.loop-block-test.true in
    bits_fit i c.loop-block.sums (joined (take i blocks)) (get_or blocks i []) (omega (arith, inside, c.requires.limit))
    (c.requires.within i [] inside) c.loop-block.invariant

pub loop-block-preserved : goal.loop-block-preserved
loop-block-preserved c =
    let blocks = c.args.blocks.now in
    let i = c.loop-block.block-index in
    let inside = c.loop-block-test.true in
    subst (BitsAre (i + 1) (map (of_z w64) c.with_block-sums.result)) (joined_more blocks i inside)
    (BitsAre_more i c.loop-block.sums (joined (take i blocks)) (get_or blocks i []) c.with_block-sums.result (omega (arith, inside, c.requires.limit))
    (c.told-blocks i inside) (c.requires.within i [] inside) c.loop-block.invariant c.with_block-sums.ensures)

pub returns : goal.returns
returns c =
    let sums = c.loop-block.invariant in
    let blocks = c.args.blocks.now in
    ap (λ bits. to_z w64 (fold_l (λ a b. (a + b) % 2 ^ 64) 0 bits)) sums.1
    ∙ reduce_sum_is c.loop-block.block-index sums.0 (joined (take c.loop-block.block-index blocks))
    (omega (arith, c.requires.limit, c.loop-block.auto.block-index-end)) sums.2
    ∙ ap (λ bs. total (joined bs)) (take_all c.loop-block.block-index blocks c.loop-block-test.false)
