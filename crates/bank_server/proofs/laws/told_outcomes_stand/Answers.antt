use Rattle.bank_server.proofs.sessions.FinalOutcomes.{told_outcomes_stand}
use Rattle.bank_server.proofs.laws.told_outcomes_stand.Goals as goal

pub returns : goal.returns
returns c = told_outcomes_stand
