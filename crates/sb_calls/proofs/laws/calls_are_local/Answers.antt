use Rattle.sb_calls.proofs.CallLocality.{local}
use Rattle.sb_calls.proofs.laws.calls_are_local.Goals as goal

pub returns : goal.returns
returns c = local
