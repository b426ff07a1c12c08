use Rattle.bank_clients.proofs.Histories.{begins_served}
use Rattle.bank_clients.proofs.laws.begins_served.Goals as goal

pub returns : goal.returns
returns c = begins_served
