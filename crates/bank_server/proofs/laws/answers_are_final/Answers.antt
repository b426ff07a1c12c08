use Rattle.bank_server.proofs.sessions.FinalAnswers.{answers_are_final}
use Rattle.bank_server.proofs.laws.answers_are_final.Goals as goal

pub returns : goal.returns
returns c = answers_are_final
