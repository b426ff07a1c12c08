use Rattle.std.proofs.Common.{◌≡◌, ◌≤◌, ◌+◌, ℕ}
use Rattle.std.specs.Prelude.{slice_get}
use Rattle.sb_rows.specs.Text.{lines}
use Rattle.bank_program.proofs.beginning.line_at.Given as goal

-- the lines that are left are those of the text from here on
abbrev pub invariant-loop-before : goal.invariant-loop-before
invariant-loop-before l = record {
  within : l._before ≤ l.place;
  left : (k : ℕ) → slice_get (lines l.rest) k ≡ slice_get (lines l.text) (k + l._before);
}
