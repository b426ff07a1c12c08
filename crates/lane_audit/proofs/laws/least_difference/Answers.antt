use Rattle.lane_audit.proofs.LeastDifferences.{EqualWithoutDifference-holds, LeastDifference-holds}
use Rattle.lane_audit.proofs.laws.least_difference.Goals as goal

pub returns-clause-difference : goal.returns-clause-difference
returns-clause-difference c = LeastDifference-holds

pub returns-clause-no_difference : goal.returns-clause-no_difference
returns-clause-no_difference c = EqualWithoutDifference-holds
