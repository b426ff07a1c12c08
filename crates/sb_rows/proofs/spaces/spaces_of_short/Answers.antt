use Rattle.std.proofs.Common.{◌≡◌, ℕ, ◌≤◌, Bool, true, false, drop, arith, length-drop}
use mir.Val.{bool_byte}
use Rattle.sb_rows.proofs.SpaceMasks.{spaces_below}
use Rattle.sb_rows.proofs.spaces.spaces_of_short.Goals as goal

at_most_one : (b : Bool) {n : ℕ} → n ≡ bool_byte b → n ≤ 1
at_most_one true h = omega (arith, h)
at_most_one false h = omega (arith, h)

pub overflow_mul-spaces : goal.overflow_mul-spaces
overflow_mul-spaces c =
    let below = spaces_below 16 (drop c.loop-at.at c.args.line.now) (omega (arith, length-drop c.loop-at.at c.args.line.now)) in
    record { fits = omega (arith, below, c.loop-at.invariant.1) }

pub overflow_add-spaces : goal.overflow_add-spaces
overflow_add-spaces c =
    let below = spaces_below 16 (drop c.loop-at.at c.args.line.now) (omega (arith, length-drop c.loop-at.at c.args.line.now)) in
    record { fits = omega (arith, below, c.loop-at.invariant.1, at_most_one _ c.from.ensures) }
