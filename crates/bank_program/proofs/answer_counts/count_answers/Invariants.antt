use Rattle.std.proofs.Common.{length}
use Rattle.bank_program.proofs.answer_counts.count_answers.Given as goal

abbrev pub decreases-loop-line : goal.decreases-loop-line
decreases-loop-line l = length l.rest
