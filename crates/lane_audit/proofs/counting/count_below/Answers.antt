use Rattle.std.proofs.Common.{◌*◌, ◌/◌, ◌+◌, ◌<◌, ◌≤◌, length, sym, ap, ◌∙◌, subst, int_lt, take, to_z, of_z, w64, FitsSigned, arith}
use Rattle.std.specs.List.{All}
use Rattle.std.proofs.lemmas.Int.{to_z-of_z}
use Rattle.std.proofs.lemmas.List.{length-drop, length-take, take_all}
use Rattle.std.proofs.lemmas.List.Sums.{count_by-le-length}
use Rattle.lane_audit.specs.Columns.{count_below}
use Rattle.lane_audit.proofs.Chunks.{blocks_fit}
use Rattle.lane_audit.proofs.Counts.{front_count, count_more_below, count_more_other}
use Rattle.lane_audit.proofs.counting.count_below.Goals as goal
use Rattle.lane_audit.proofs.counting.count_below.Goals.{then-value-low, else-value-low}

pub count_in_blocks-count-requires : goal.count_in_blocks-count-requires
count_in_blocks-count-requires c =
    subst (All (All (FitsSigned w64))) (sym c.as_chunks.ensures.front)
    (blocks_fit (FitsSigned w64) 8 (length c.args.values.now / 8) c.args.values.now c.each_fits.ensures)

pub loop-value-init : goal.loop-value-init
loop-value-init c = front_count c.args.values.now _ _ _ (omega arith) c.as_chunks.ensures.front c.count_in_blocks-count.ensures

pub overflow_add-count : goal.overflow_add-count
overflow_add-count c =
    let values = c.args.values.now in
    let front = length values / 8 * 8 in
    let place = front + c.loop-value.value-index in
    let inside : place < length values = omega (arith, c.loop-value-test.true, ap length c.as_chunks.ensures.back, length-drop front values) in
    let few = count_by-le-length (λ value. int_lt value (to_z w64 (of_z w64 c.args.low))) (take place values) in
    omega (arith, c.loop-value.invariant, few, length-take place values, inside)

pub loop-value-preserved : goal.loop-value-preserved
loop-value-preserved c =
    let values = c.args.values.now in
    let front = length values / 8 * 8 in
    let i = c.loop-value.value-index in
    let rest = c.as_chunks.ensures.back in
    let inside : front + i < length values = omega (arith, c.loop-value-test.true, ap length rest, length-drop front values) in
    elim c.if-value-low.branch [
      | then-value-low w ↦
          w.count-is ∙ ap (λ n. n + 1) c.loop-value.invariant
          ∙ sym (count_more_below values _ front i c.each_fits.ensures inside (rw rest at w.if-value-low.true))
      | else-value-low w ↦
          w.count-is ∙ c.loop-value.invariant ∙ sym (count_more_other values _ front i c.each_fits.ensures inside (rw rest at w.if-value-low.false))
    ]

pub returns : goal.returns
returns c =
    let values = c.args.values.now in
    let front = length values / 8 * 8 in
    let back = ap length c.as_chunks.ensures.back in
    let all : length values ≤ front + c.loop-value.value-index = omega (arith, c.loop-value-test.false, back, length-drop front values) in
    c.loop-value.invariant ∙ ap (λ front. count_below front (to_z w64 (of_z w64 c.args.low))) (take_all (front + c.loop-value.value-index) values all)
    ∙ ap (count_below values) (to_z-of_z w64 c.args.low c.ranges.low)
