use Rattle.std.proofs.Common.{rules, ◌≡◌, ◌∷◌, ◌∙◌, [], None, List, ℕ, Bor, ap, arith}
use Rattle.std.specs.Prelude.{option_map, slice_get}
use Rattle.sb_rows.specs.Text.{lines}
use Rattle.bank_program.proofs.LinesShown.{left_here, left_next, left_none}
use Rattle.bank_program.proofs.beginning.line_at.Goals as goal

pub returns-in_err-after : goal.returns-in_err-after
returns-in_err-after c =
    let none : lines c.loop-before.rest.now ≡ [] = search rules in
    let gone : option_map (λ (next : Bor (List ℕ) × Bor (List ℕ)). next.0.now) c.from_residual.result ≡ None = search rules in
    gone ∙ left_none (lines c.args.text.now) (lines c.loop-before.rest.now) c.loop-before._before c.loop-before.invariant.left c.args.place none
    c.loop-before.invariant.within

pub loop-before-preserved : goal.loop-before-preserved
loop-before-preserved c =
    let next : lines c.loop-before.rest.now ≡ c.in_ok-after.field-0-0.now ∷ lines c.in_ok-after.after.now = search rules in
    record {
      within = omega (arith, c.loop-before-test.true);
      left = left_next (lines c.args.text.now) (lines c.loop-before.rest.now) c.loop-before._before c.loop-before.invariant.left
          (lines c.in_ok-after.after.now) c.in_ok-after.field-0-0.now next;
    }

pub returns : goal.returns
returns c =
    let end : c.loop-before._before ≡ c.args.place = omega (arith, c.loop-before-test.false, c.loop-before.invariant.within) in
    left_here (lines c.args.text.now) (lines c.loop-before.rest.now) c.loop-before._before c.loop-before.invariant.left
    (λ (next : Bor (List ℕ) × Bor (List ℕ)). next.0.now) (λ (next : Bor (List ℕ) × Bor (List ℕ)). lines next.1.now) c.next_line-2.result
    c.next_line-2.ensures.line
    ∙ ap (λ (n : ℕ). slice_get (lines c.args.text.now) n) end
