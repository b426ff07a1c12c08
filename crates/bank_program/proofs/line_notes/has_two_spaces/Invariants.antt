use Rattle.std.proofs.Common.{◌≡◌, length}
use Rattle.bank_program.specs.LineNotes as spec
use Rattle.bank_program.proofs.line_notes.has_two_spaces.Given as goal

-- what is left has two spaces exactly if the line has
abbrev pub invariant-loop-first : goal.invariant-loop-first
invariant-loop-first l = spec.has_two_spaces l.rest ≡ spec.has_two_spaces l.line

abbrev pub decreases-loop-first : goal.decreases-loop-first
decreases-loop-first l = length l.rest
