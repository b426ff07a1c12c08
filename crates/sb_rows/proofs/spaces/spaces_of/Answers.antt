use Rattle.std.proofs.Common.{◌≡◌, ◌+◌, ◌-◌, ◌/◌, ◌%◌, ◌^◌, length, take, drop, ap, ◌∙◌, arith, length-drop, drop-drop}
use Rattle.std.proofs.lemmas.List.{length-take, take_all}
use Rattle.sb_rows.specs.inner.Spaces.{spaces_of}
use Rattle.sb_rows.proofs.SpaceMasks.{spaces_below, spaces_behind, spaces_parted}
use Rattle.sb_rows.proofs.spaces.spaces_of.Goals as goal

pub loop-at-init : goal.loop-at-init
loop-at-init c =
    let line = c.args.line.now in
    let n = length line in
    let whole = take_all 16 (drop (n - 16) line) (omega (arith, length-drop (n - 16) line)) in
    let place : n - 16 + (16 - n % 16) ≡ n - n % 16 = omega arith in (
      omega arith,
      omega arith,
      ap (λ m. m / 2 ^ (16 - n % 16)) (c.spaces_of_block.ensures ∙ ap spaces_of whole)
          ∙ spaces_behind (16 - n % 16) (drop (n - 16) line) (omega (arith, length-drop (n - 16) line))
          ∙ ap spaces_of (drop-drop (16 - n % 16) (n - 16) line ∙ ap (λ k. drop k line) place),
    )

pub overflow_mul-spaces : goal.overflow_mul-spaces
overflow_mul-spaces c =
    let below = spaces_below 48 (drop c.loop-at.at c.args.line.now) (omega (arith, length-drop c.loop-at.at c.args.line.now, c.loop-at.invariant.1)) in
    record { fits = omega (arith, below, c.loop-at.invariant.2) }

pub overflow_add-spaces : goal.overflow_add-spaces
overflow_add-spaces c =
    let below = spaces_below 48 (drop c.loop-at.at c.args.line.now) (omega (arith, length-drop c.loop-at.at c.args.line.now, c.loop-at.invariant.1)) in
    let read = take 16 (drop (c.loop-at.at - 16) c.args.line.now) in
    let block = spaces_below 16 read (omega (arith, length-take 16 (drop (c.loop-at.at - 16) c.args.line.now))) in
    record { fits = omega (arith, below, block, c.loop-at.invariant.2, c.spaces_of_block-in-loop-at.ensures) }

pub loop-at-preserved : goal.loop-at-preserved
loop-at-preserved c =
    let line = c.args.line.now in
    let at = c.loop-at.at - 16 in
    let back : at + 16 ≡ c.loop-at.at = omega (arith, c.loop-at.invariant.1) in
    let behind = ap spaces_of (drop-drop 16 at line ∙ ap (λ k. drop k line) back) in (
      omega arith,
      omega (arith, c.loop-at.invariant.1),
      omega (arith, c.loop-at.invariant.2, c.spaces_of_block-in-loop-at.ensures, behind, spaces_parted 16 (drop at line) (omega (arith, length-drop at line))),
    )
