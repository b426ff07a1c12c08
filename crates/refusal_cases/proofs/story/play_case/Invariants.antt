use Rattle.std.proofs.Common.{length}
use Rattle.refusal_cases.proofs.story.play_case.Given as goal

abbrev pub decreases-loop-event : goal.decreases-loop-event
decreases-loop-event l = length l.left
