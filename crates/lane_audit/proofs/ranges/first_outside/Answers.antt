use Rattle.std.proofs.Common.{arith, pos, w64, FitsSigned}
use Rattle.std.proofs.lemmas.Int.{ints, to_z-of_z}
use Rattle.lane_audit.specs.Columns.{is_outside}
use Rattle.lane_audit.proofs.Positions.{position_at, position_none}
use Rattle.lane_audit.proofs.ranges.first_outside.Goals as goal
use Rattle.lane_audit.proofs.ranges.first_outside.Goals.{then-values-place-via-then-values-place, then-values-place-via-else-values-place+then-high-values}

pub returns-then-values-place : goal.returns-then-values-place
returns-then-values-place c =
    let low : FitsSigned w64 c.args.low = c.ranges.low in
    let high : FitsSigned w64 c.args.high = c.ranges.high in
    position_at (is_outside c.args.low c.args.high) c.args.values.now (pos 0) c.loop-place.place c.loop-place-test.true
    (simp to_z-of_z at c.loop-place.invariant)
    (elim c.then-values-place.branch [
      | then-values-place-via-then-values-place w ↦ grind (arith, ints)
      | then-values-place-via-else-values-place+then-high-values w ↦ grind (arith, ints)
    ])

pub returns : goal.returns
returns c =
    let low : FitsSigned w64 c.args.low = c.ranges.low in
    let high : FitsSigned w64 c.args.high = c.ranges.high in
    position_none (is_outside c.args.low c.args.high) c.args.values.now (pos 0) (λ k inside. simp to_z-of_z at (c.loop-place.invariant k (omega arith)))
