use Rattle.replica_laws.proofs.AskAppends.{asks_append}
use Rattle.replica_laws.proofs.laws.asks_append.Goals as goal

pub returns : goal.returns
returns c = asks_append
