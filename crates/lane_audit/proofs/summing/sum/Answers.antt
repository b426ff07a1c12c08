use Rattle.std.proofs.Common.{◌≡◌, ◌+◌, ◌*◌, ◌/◌, pos, ◌+ℤ◌, get_or, take, length, rules, sym, ap, ◌∙◌, subst, arith, w64, FitsSigned, to_z, of_z}
use Rattle.std.proofs.lemmas.Int.{to_z-of_z}
use Rattle.std.specs.List.{All}
use Rattle.sb_amount.specs.Limit.{IsWithinLimit}
use Rattle.lane_audit.specs.Columns.{total}
use Rattle.lane_audit.proofs.Chunks.{blocks_fit, length-first_chunks}
use Rattle.lane_audit.proofs.Totals.{front_total, part_fits, rest_total}
use Rattle.lane_audit.proofs.summing.sum.Goals as goal

pub sum_of_blocks-sum-requires : goal.sum_of_blocks-sum-requires
sum_of_blocks-sum-requires c =
    let blocks = length (c.as_chunks.result.0.now) in
    record {
      limit = omega (arith, c.requires.limit, ap length c.as_chunks.ensures.front, length-first_chunks 8 (length c.args.values.now / 8) c.args.values.now);
      within = subst (All (All IsWithinLimit)) (sym c.as_chunks.ensures.front)
          (blocks_fit IsWithinLimit 8 (length c.args.values.now / 8) c.args.values.now c.requires.within);
    }

pub loop-value-init : goal.loop-value-init
loop-value-init c =
    to_z-of_z w64 c.sum_of_blocks-sum.result (record { sfits = c.sum_of_blocks-sum.type_inv })
    ∙ front_total c.args.values.now c.requires.limit c.requires.within _ _ c.as_chunks.ensures.front c.sum_of_blocks-sum.ensures

-- the sum with one more value
next : (c : goal.After-sum-1)
    → to_z w64 c.loop-value.sum-bits +ℤ to_z w64 (of_z w64 (get_or c.as_chunks.result.1.now c.loop-value.value-index (pos 0)))
    ≡ total (take (length c.args.values.now / 8 * 8 + (c.loop-value.value-index + 1)) c.args.values.now)
next c =
    let rest = c.as_chunks.result.1.now in
    let i = c.loop-value.value-index in
    let fits : FitsSigned w64 (get_or rest i (pos 0)) = search rules in
    ap (λ z. to_z w64 c.loop-value.sum-bits +ℤ z) (to_z-of_z w64 (get_or rest i (pos 0)) fits) ∙ ap (λ z. z +ℤ get_or rest i (pos 0)) c.loop-value.invariant
    ∙ rest_total c.args.values.now rest (length c.args.values.now / 8 * 8) i c.as_chunks.ensures.back c.loop-value-test.true

pub overflow_add-sum : goal.overflow_add-sum
overflow_add-sum c =
    subst (FitsSigned w64) (sym (next c))
    (part_fits c.args.values.now c.requires.limit c.requires.within (length c.args.values.now / 8 * 8 + (c.loop-value.value-index + 1)))

pub loop-value-preserved : goal.loop-value-preserved
loop-value-preserved c = to_z-of_z w64 _ (overflow_add-sum c) ∙ next c
