use Rattle.bank_server.proofs.boards.Agreements.{comparisons_add_up}
use Rattle.bank_server.proofs.laws.comparisons_add_up.Goals as goal

pub returns : goal.returns
returns c = comparisons_add_up
