-- By the exchanges.
use Rattle.cown_workers.proofs.TracedSteps.{traced-along}
use Rattle.cown_workers.proofs.laws.notices_of_exchanges.Goals as goal

pub returns : goal.returns
returns g c = λ old new steps few along. traced-along g.C.Crew.acts steps old new few along
